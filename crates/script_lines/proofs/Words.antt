-- The first word of a text, which may name a command.
use Rattle.std.proofs.Common.{◌≡◌, ◌≢◌, ℕ, ◌+◌, ◌-◌, ◌<◌, ◌≤◌, List, ◌∷◌, ◌++◌, ◌⊎◌, inl, inr, true, length, take, drop, get_or, arith, refl, sym, ap, ◌∙◌}
use Rattle.std.proofs.Math.Seq.{get_or-append_seam}
use Rattle.std.proofs.lemmas.List.{get_or-take, get_or_default, length-take-le, take_all}
use Rattle.std.proofs.lemmas.Bool.Decides.{eqb_tells}
use Rattle.script_lines.specs.{IsWordEnd, is_word, IsFrontOf, BeginsWithName, IsCut, name_of_verb}
use Rattle.script_lines.specs.declared.verb.Verb.{Verb}
use Rattle.script_lines.proofs.Codes.{AreBytes}
use Rattle.script_lines.proofs.Cuts.{NoSpace, cut_at, cut_once, no_cut}
use Rattle.script_lines.proofs.Fronts.{front_byte, front_take}
use Rattle.script_lines.proofs.Verbs.{name_no_space, name_short, word_told}

pub word_no_space : (text : List ℕ) (end : ℕ) → IsWordEnd text end → NoSpace (take end text)
word_no_space text end is k d h = (is.bytes k d h).0

pub word_bytes : (text : List ℕ) (end : ℕ) → IsWordEnd text end → AreBytes (take end text)
word_bytes text end is k d h = (is.bytes k d h).1

-- a text is cut after its first word
pub word_cut : (text : List ℕ) (end : ℕ) → IsWordEnd text end → end < length text
    → IsCut text (take end text) (take (length text - (end + 1)) (drop (end + 1) text))
word_cut text end is more = cut_at text end more (word_no_space text end is) (is.stop more)

-- a text that ends with its first word is that word
pub word_alone : (text : List ℕ) (end : ℕ) → end ≡ length text → take end text ≡ text
word_alone text end e = take_all end text (omega arith)

at_end : (text : List ℕ) (end : ℕ) (v : Verb) → IsWordEnd text end → text ≡ name_of_verb v → (end < length text) ⊎ (end ≡ length text) → take end text ≡ name_of_verb v
at_end text end v is e (inl more) =
    let space : get_or text end 0 ≡ 32 = is.stop more in
    let long : end < length (name_of_verb v) = rw (← e) more in
    absurd (name_no_space v end 0 long (rw (← e) space))
at_end text end v is e (inr whole) = word_alone text end whole ∙ e

before : (text : List ℕ) (end : ℕ) (v : Verb) (rest : List ℕ) → IsWordEnd text end → text ≡ name_of_verb v ++ 32 ∷ rest
    → (end < length text) ⊎ (end ≡ length text) → take end text ≡ name_of_verb v
before text end v rest is e (inl more) = (cut_once text _ _ (name_of_verb v) rest (word_cut text end is more) (name_no_space v) e).0
before text end v rest is e (inr whole) =
    let none : NoSpace text = rw (word_alone text end whole) at (word_no_space text end is) in absurd (no_cut text (name_of_verb v) rest none e)

reaches : (n end : ℕ) → end ≤ n → (end < n) ⊎ (end ≡ n)
reaches n end h = elim (eqb_tells end n) [
  | inl is ↦ inr is.1
  | inr isnt ↦ let other : end ≢ n = isnt.1 in inl (omega arith)
]

-- the first word of a text that begins with a name is that name
pub word_is : (text : List ℕ) (end : ℕ) (v : Verb) → IsWordEnd text end → BeginsWithName v text → take end text ≡ name_of_verb v
word_is text end v is (inl e) = at_end text end v is e (reaches (length text) end is.inside)
word_is text end v is (inr e) = before text end v e.0 is e.1 (reaches (length text) end is.inside)

-- a word is the first of itself, and whole
pub whole_word : (text : List ℕ) (end : ℕ) → IsWordEnd text end → is_word text ≡ true → end ≡ length text
whole_word text end is word = elim (reaches (length text) end is.inside) [
  | inl more ↦ absurd ((word_told text word end 0 more).0 (is.stop more))
  | inr whole ↦ whole
]

-- a long word is no name
pub too_long : (text : List ℕ) (end : ℕ) (v : Verb) → IsWordEnd text end → 7 < end → ¬ BeginsWithName v text
too_long text end v is long b =
    let word = word_is text end v is b in
    let lengths : length (take end text) ≡ length (name_of_verb v) = rw word refl in
    let taken = length-take-le end text is.inside in
    let short = name_short v in
    omega arith

-- where no byte before the end is a space, and a space or nothing follows, there the first word ends
pub word_ends : (text wide : List ℕ) (end : ℕ) → IsFrontOf text wide → ((k : ℕ) → get_or text k 0 < 256) → end ≤ length text
    → NoSpace (take end wide) → (end < length text → get_or wide end 0 ≡ 32) → IsWordEnd text end
word_ends text wide end front bytes inside none stop =
    let same : take end wide ≡ take end text = sym (front_take text wide end front inside) in
    let other : NoSpace (take end text) = rw same at none in
    record {
      inside = inside;
      bytes = λ k d h.
          let taken = length-take-le end text inside in
          let here : get_or (take end text) k d ≡ get_or text k 0 = get_or-take end text k d (omega arith) ∙ get_or_default text k d 0 (omega arith) in
          (other k d h, rw here (bytes k));
      stop = λ more. front_byte text wide end front more ∙ stop more;
    }

-- where the first eight bytes have no space, no name ends there
pub no_near_space : (text wide : List ℕ) (v : Verb) → IsFrontOf text wide → 7 < length text → NoSpace (take 8 wide) → ¬ BeginsWithName v text
no_near_space text wide v front long none (inl e) =
    let lengths : length text ≡ length (name_of_verb v) = ap length e in
    let short = name_short v in
    absurd (omega arith)
no_near_space text wide v front long none (inr e) =
    let short = name_short v in
    let n = length (name_of_verb v) in
    let taken = length-take-le 8 text (omega arith) in
    let same : take 8 wide ≡ take 8 text = sym (front_take text wide 8 front (omega arith)) in
    let other : NoSpace (take 8 text) = rw same at none in
    let space : get_or text n 0 ≡ 32 = rw e.1 (get_or-append_seam (name_of_verb v) 32 e.0 0) in
    other n 0 (omega arith) (get_or-take 8 text n 0 short ∙ space)
