-- A text to which bytes are written. Serves the contracts of `ArrayText`.
use Rattle.std.proofs.Common.{◌≡◌, ℕ, ◌+◌, ◌-◌, ◌≤◌, ◌++◌, List, length, take, drop, replicate, ap, sym, ◌∙◌, arith, length-append, length-drop}
use Rattle.std.proofs.Common.{drop-drop, append_assoc}
use Rattle.std.proofs.lemmas.List.{drop-replicate, drop_at, length-take-le}
use Rattle.group_tree.specs.Text.{IsPadded}

rest_zeros : (bytes : List ℕ) (len more : ℕ) → IsPadded 256 bytes len → drop (len + more) bytes ≡ replicate (256 - (len + more)) 0
rest_zeros bytes len more h =
    let rest : drop more (drop len bytes) ≡ replicate (256 - len - more) 0 = rw h.zeros (drop-replicate more (256 - len) 0) in
    let left : 256 - len - more ≡ 256 - (len + more) = omega arith in
    sym (drop-drop more len bytes) ∙ (rest ∙ ap (λ n. replicate n 0) left)

-- bytes written after the text have zeros after them
pub IsPadded-written : (bytes new more : List ℕ) (len : ℕ) → IsPadded 256 bytes len → len + length more ≤ 256 →
    new ≡ take len bytes ++ (more ++ drop (len + length more) bytes) → IsPadded 256 new (len + length more)
IsPadded-written bytes new more len h fits written = record {
  size = rw written (simp length-append (omega (arith, length-take-le len bytes (omega (arith, h.size)), length-drop (len + length more) bytes, h.size)));
  fits = fits;
  zeros = rw (written, ← append_assoc)
      (drop_at (take len bytes ++ more) (drop (len + length more) bytes) (len + length more)
      (omega (arith, length-append (take len bytes) more, length-take-le len bytes (omega (arith, h.size))))
      ∙ rest_zeros bytes len (length more) h);
}
