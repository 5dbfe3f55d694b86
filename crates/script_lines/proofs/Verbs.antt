-- The names of the commands.
use Rattle.std.proofs.Common.{◌≡◌, ◌≢◌, ℕ, zero, suc, ◌<◌, Bool, true, false, cond, not, ◌&&◌, nat_lt, List, [], ◌∷◌, ◌⊎◌, inl, inr, All, Option, Some, refl, sym, ap}
use Rattle.std.proofs.Common.{◌∙◌, eqb, get_or, length, map, arith, nat_eq}
use Rattle.std.proofs.lemmas.Bool.{eqb-true, eqb-false, ltb-true}
use Rattle.script_lines.specs.{code_of, is_word, all_verbs, by_name, name_of_verb, verb_coded}
use Rattle.std.specs.Map.{lookup}
use Rattle.script_lines.specs.declared.verb.Name.{Name}
use Rattle.script_lines.specs.declared.verb.Verb.{Verb}
use Rattle.script_lines.specs.declared.verb.Verb.TheVariants.{Mkdir, OnFrame}
use Rattle.script_lines.specs.declared.line.FrameAct.TheVariants.{Touch}
use Rattle.script_lines.proofs.Codes.{AreBytes, same_code}
use Rattle.script_lines.proofs.Cuts.{NoSpace}

-- each number is that of its command's name
pub verb_coded-name_of : (v : Verb) → verb_coded (code_of (name_of_verb v)) ≡ Some v
verb_coded-name_of Mkdir = refl
verb_coded-name_of (OnFrame Touch) = refl
verb_coded-name_of v = refl

-- two commands have two names
pub same_verb : (v w : Verb) → name_of_verb v ≡ name_of_verb w → v ≡ w
same_verb v w e =
    let same : Some v ≡ Some w = sym (verb_coded-name_of v) ∙ ap (λ text. verb_coded (code_of text)) e ∙ verb_coded-name_of w in
    cc

-- the command that a list has under the name of this number
abbrev found_in : List Verb → ℕ → Option Verb
found_in verbs code = lookup (λ (name : Name). nat_eq code name.code) (map by_name verbs)

found : (code : ℕ) (w v : Verb) (rest : Option Verb) (b : Bool) → b ≡ eqb code (code_of (name_of_verb w))
    → cond b (Some w) rest ≡ Some v → ((code ≡ code_of (name_of_verb w)) × (w ≡ v)) ⊎ (rest ≡ Some v)
found code w v rest true t h = inl (eqb-true code (code_of (name_of_verb w)) (sym t), cc)
found code w v rest false t h = inr h

-- the number is that of the command's name
coded_in : (verbs : List Verb) (code : ℕ) (v : Verb) → found_in verbs code ≡ Some v → code ≡ code_of (name_of_verb v)
coded_in [] code v e = cc
coded_in (w ∷ ws) code v e = elim (found code w v (found_in ws code) (eqb code (code_of (name_of_verb w))) refl e) [
  | inl here ↦ here.0 ∙ ap (λ x. code_of (name_of_verb x)) here.1
  | inr later ↦ coded_in ws code v later
]

-- and the command is in the list
place_in : (verbs : List Verb) (code : ℕ) (v : Verb) → found_in verbs code ≡ Some v
    → (k : ℕ) × (k < length verbs) × (get_or verbs k Mkdir ≡ v)
place_in [] code v e = cc
place_in (w ∷ ws) code v e = elim (found code w v (found_in ws code) (eqb code (code_of (name_of_verb w))) refl e) [
  | inl here ↦ (0, omega arith, here.1)
  | inr later ↦ let place = place_in ws code v later in (suc place.0, omega arith, place.2)
]

-- each command is among all
pub in_all : (v : Verb) → (k : ℕ) × (k < length all_verbs) × (get_or all_verbs k Mkdir ≡ v)
in_all v = place_in all_verbs (code_of (name_of_verb v)) v (verb_coded-name_of v)

-- a word says whether it is one
told : (b : ℕ) (s t rest : Bool) → s ≡ eqb b 32 → t ≡ nat_lt b 256 → (not s && (t && rest)) ≡ true → ((b ≢ 32) × (b < 256)) × (rest ≡ true)
told b true t rest e f h = cc
told b false false rest e f h = cc
told b false true rest e f h = ((eqb-false b 32 (sym e), ltb-true b 256 (sym f)), h)

pub word_told : (bs : List ℕ) → is_word bs ≡ true → All (λ b. (b ≢ 32) × (b < 256)) bs
word_told [] e k d h = absurd (omega arith)
word_told (b ∷ bs) e zero d h = (told b (eqb b 32) (nat_lt b 256) (is_word bs) refl refl e).0
word_told (b ∷ bs) e (suc k) d h = word_told bs (told b (eqb b 32) (nat_lt b 256) (is_word bs) refl refl e).1 k d (omega arith)

name_is_word : (v : Verb) → is_word (name_of_verb v) ≡ true
name_is_word Mkdir = refl
name_is_word (OnFrame Touch) = refl
name_is_word v = refl

-- no name has a space
pub name_no_space : (v : Verb) → NoSpace (name_of_verb v)
name_no_space v k d h = (word_told (name_of_verb v) (name_is_word v) k d h).0

name_bytes : (v : Verb) → AreBytes (name_of_verb v)
name_bytes v k d h = (word_told (name_of_verb v) (name_is_word v) k d h).1

is_short : (v : Verb) → nat_lt (length (name_of_verb v)) 8 ≡ true
is_short Mkdir = refl
is_short (OnFrame Touch) = refl
is_short v = refl

-- no name is long
pub name_short : (v : Verb) → length (name_of_verb v) < 8
name_short v = ltb-true (length (name_of_verb v)) 8 (is_short v)

-- a text whose number names a command is its name
pub named : (text : List ℕ) (v : Verb) → AreBytes text → verb_coded (code_of text) ≡ Some v → text ≡ name_of_verb v
named text v bytes e = same_code text (name_of_verb v) bytes (name_bytes v) (coded_in all_verbs (code_of text) v e)
