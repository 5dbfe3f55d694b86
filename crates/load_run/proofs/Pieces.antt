-- What was read of an input so far, piece by piece.
use Rattle.std.proofs.Common.{◌≡◌, ◌∙◌, ℕ, ◌+◌, ◌≤◌, List, [], ◌++◌, Option, None, Some, IfSome, ap, arith, length, subst, sym, take, append-nil}
use Rattle.std.proofs.lemmas.List.{length-append, length-take, take-append-le, take_all}
use Rattle.std.proofs.KnownBytes.{Consumes-kept, Consumes-nil, Consumes-trans}
use Rattle.std.specs.Io.KnownBytes.{Consumes, IsAtEnd, Keeps}

-- the bytes were read, and are no more than are wanted
pub record ReadSoFar (input left : Option (List ℕ)) (bytes : List ℕ) : Type 0 where
  pub few : length bytes ≤ 1048577
  pub read : Consumes input left bytes

-- nothing was read
pub read_none : (input : Option (List ℕ)) (bytes : List ℕ) → bytes ≡ [] → ReadSoFar input input bytes
read_none input bytes none = record {
  few = subst (λ (l : List ℕ). length l ≤ 1048577) (sym none) (omega arith);
  read = subst (Consumes input input) (sym none) (Consumes-nil input);
}

-- a piece more was read
pub read_more : (input left after : Option (List ℕ)) (bytes piece new : List ℕ) (n : ℕ) → ReadSoFar input left bytes → Consumes left after (take n piece)
    → length bytes + n ≤ 1048577 → new ≡ bytes ++ take n piece → ReadSoFar input after new
read_more input left after bytes piece new n so_far read few is =
    let long = ap length is ∙ length-append bytes (take n piece) in
    let taken = length-take n piece in
    record {
      few = omega (arith, long, taken, few);
      read = subst (Consumes input after) (sym is) (Consumes-trans input left after bytes (take n piece) so_far.read read);
    }

-- a read failed, and took nothing
pub read_kept : (input left after : Option (List ℕ)) (bytes : List ℕ) → ReadSoFar input left bytes → Keeps left after → ReadSoFar input after bytes
read_kept input left after bytes so_far kept = record { few = so_far.few; read = Consumes-kept input left after bytes so_far.read kept }

-- as many were read as may be
pub read_full : (input left : Option (List ℕ)) (bytes : List ℕ) → ReadSoFar input left bytes → 1048577 ≤ length bytes
    → IfSome input (λ all. bytes ≡ take 1048577 all)
read_full None left bytes so_far full = tt
read_full (Some all) None bytes so_far full = absurd so_far.read
read_full (Some all) (Some rest) bytes so_far full =
    let few = so_far.few in
    sym (ap (take 1048577) so_far.read ∙ take-append-le 1048577 bytes rest full ∙ take_all 1048577 bytes few)

-- all were read
pub read_all : (input left after : Option (List ℕ)) (bytes piece : List ℕ) → ReadSoFar input left bytes → Consumes left after (take 0 piece)
    → IsAtEnd after → IfSome input (λ all. bytes ≡ take 1048577 all)
read_all None left after bytes piece so_far read end = tt
read_all (Some all) None after bytes piece so_far read end = absurd so_far.read
read_all (Some all) (Some rest) None bytes piece so_far read end = absurd read
read_all (Some all) (Some rest) (Some last) bytes piece so_far read end =
    let none : rest ≡ [] = read ∙ end in
    let whole : all ≡ bytes = so_far.read ∙ ap (λ (l : List ℕ). bytes ++ l) none ∙ append-nil bytes in
    sym (ap (take 1048577) whole ∙ take_all 1048577 bytes so_far.few)

-- and nothing more was taken
pub read_end : (input left after : Option (List ℕ)) (bytes piece : List ℕ) → ReadSoFar input left bytes → Consumes left after (take 0 piece)
    → Consumes input after bytes
read_end input left after bytes piece so_far read =
    subst (Consumes input after) (append-nil bytes) (Consumes-trans input left after bytes (take 0 piece) so_far.read read)
