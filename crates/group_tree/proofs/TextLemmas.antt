-- A text that is written over zeros. Serves `PathText::of`.
use Rattle.std.proofs.Common.{◌≡◌, ℕ, ◌-◌, ◌≤◌, ◌++◌, List, length, drop, replicate, arith, length-append, refl}
use Rattle.std.proofs.lemmas.List.{drop-replicate, drop_at, length-replicate}
use Rattle.group_tree.specs.Text.{IsPadded, padded}

padded-is : (text : List ℕ) → length text ≤ 512 → IsPadded 512 (padded 512 text) (length text)
padded-is text fits = record {
  size = omega (arith, length-append text (replicate (512 - length text) 0), length-replicate {A = ℕ} (512 - length text) 0);
  fits = fits;
  zeros = drop_at text (replicate (512 - length text) 0) (length text) refl;
}

-- the text written over 512 zeros has zeros after it
pub IsPadded-written : (bytes text : List ℕ) → length text ≤ 512 → bytes ≡ text ++ drop (length text) (replicate 512 0) → IsPadded 512 bytes (length text)
IsPadded-written bytes text fits e = rw (e, drop-replicate {X = ℕ} (length text) 512 0) (padded-is text fits)
