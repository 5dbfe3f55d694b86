-- What a writer was given, write by write.
use Rattle.std.proofs.Common.{◌≡◌, ◌∙◌, ℕ, ◌+◌, ◌-◌, ◌≤◌, List, Option, ap, arith, drop, length, subst, sym, take}
use Rattle.std.proofs.lemmas.List.{length-drop, take_all, take_rest}
use Rattle.std.proofs.Math.Seq.{take-add}
use Rattle.std.proofs.KnownBytes.{Appends-trans}
use Rattle.std.specs.Io.KnownBytes.{Appends}
use Rattle.line_server.specs.Writing.{AppendsBeginning}

-- after the first i bytes, a write of what comes after them took n
pub taken_more : (a b c : Option (List ℕ)) (bytes : List ℕ) (i n : ℕ) → i ≤ length bytes → Appends a b (take i bytes)
    → n ≤ length (take (length bytes - i) (drop i bytes)) → Appends b c (take n (take (length bytes - i) (drop i bytes)))
    → (i + n ≤ length bytes) × Appends a c (take (i + n) bytes)
taken_more a b c bytes i n within so_far few more =
    let rest = take_rest bytes i in
    let long = ap length rest ∙ length-drop i bytes in
    let next : Appends b c (take n (drop i bytes)) = subst (λ (l : List ℕ). Appends b c (take n l)) rest more in (
      omega (arith, long, few, within),
      subst (Appends a c) (sym (take-add i n bytes)) (Appends-trans a b c (take i bytes) (take n (drop i bytes)) so_far next),
    )

-- all bytes are taken
pub all_taken : (a b : Option (List ℕ)) (bytes : List ℕ) (i : ℕ) → i ≡ length bytes → Appends a b (take i bytes) → Appends a b bytes
all_taken a b bytes i all taken = subst (Appends a b) (take_all i bytes (omega (arith, all))) taken

-- all bytes are a beginning
pub whole_begins : (a b : Option (List ℕ)) (bytes : List ℕ) → Appends a b bytes → AppendsBeginning a b bytes
whole_begins a b bytes whole = (length bytes, subst (Appends a b) (sym (take_all (length bytes) bytes (omega arith))) whole)
