-- Flags, read and written. Serves `read_flag` and `write_flag`.
use Rattle.std.proofs.Common.{◌≡◌, ◌≢◌, ℕ, Bool, true, false, true≢false, List, [], refl, ap}
use Rattle.std.specs.Prelude.{Option, Some, None, Result, Ok, Err, codes, ◌↔◌, IfErr, ok_or, option_copied}
use Rattle.std.specs.Borrow.{Bor}
use Rattle.std.specs.Str.{bytes_eq}
use Rattle.group_tree.specs.declared.fault.Fault.{Fault}
use Rattle.group_tree.specs.declared.fault.Fault.TheVariants.{BadLimit}
use Rattle.control_files.specs.{flag_text, flag_word, IsFlagText, IsNoFlagText, IsFlagReading, HasNoSpace, HasOnlyWord, IsOnlyWord}
use Rattle.control_files.proofs.GrammarLemmas.{same_only_word}

-- each flag has its own word
same_flag_word : (v w : Bool) → flag_word v ≡ flag_word w → v ≡ w
same_flag_word false false same = refl
same_flag_word false true same = absurd (true≢false (ap (bytes_eq (codes "0")) same))
same_flag_word true false same = absurd (true≢false (ap (bytes_eq (codes "1")) same))
same_flag_word true true same = refl

no_space_in_flag : (flag : Bool) → HasNoSpace (flag_word flag) × (flag_word flag ≢ [])
no_space_in_flag false = (refl, λ same. cc)
no_space_in_flag true = (refl, λ same. cc)

only_flag_word : (text : List ℕ) (flag : Bool) → IsFlagText text flag → HasOnlyWord text (flag_word flag)
only_flag_word text flag h = record {
  before = h.before;
  after = h.after;
  parts = h.parts;
  spaces_before = h.spaces_before;
  spaces_after = h.spaces_after;
  no_space =
      (no_space_in_flag flag).0;
  some_byte = (no_space_in_flag flag).1;
}

flag_of_word : (text word : List ℕ) (flag : Bool) → HasOnlyWord text word → word ≡ flag_word flag → IsFlagText text flag
flag_of_word text word flag h is =
    record { before = h.before; after = h.after; parts = rw (← is) h.parts; spaces_before = h.spaces_before; spaces_after = h.spaces_after }

-- the ways of the reader
pub no_flag_read : (text : List ℕ) (found : Option (Bor (List ℕ))) (fault : Fault) → IsOnlyWord text (option_copied found) →
    ◌≡◌ {A = Result (Bor (List ℕ)) Fault} (Err fault) (ok_or found BadLimit) → IsFlagReading text (Err fault)
no_flag_read text None fault missing is =
    let same : fault ≡ BadLimit = cc in rw same (λ flag h. missing (flag_word flag) (only_flag_word text flag h))
no_flag_read text (Some word) fault missing is = cc

pub flag_read : (text word : List ℕ) (found : Option Bool) → HasOnlyWord text word →
    ((flag : Bool) → (found ≡ Some flag) ↔ (word ≡ flag_word flag)) → IsFlagReading text (ok_or found BadLimit)
flag_read text word (Some flag) h is = flag_of_word text word flag h ((is flag).0 refl)
flag_read text word None h is =
    λ flag t. let none : ◌≡◌ {A = Option Bool} None (Some flag) = (is flag).1 (same_only_word text word (flag_word flag) h (only_flag_word text flag t)) in cc

-- a text has one flag at most
same_flag : (text : List ℕ) (v w : Bool) → IsFlagText text v → IsFlagText text w → v ≡ w
same_flag text v w h k = same_flag_word v w (same_only_word text (flag_word v) (flag_word w) (only_flag_word text v h) (only_flag_word text w k))

pub exactly_flag : (text : List ℕ) (r : Result Bool Fault) → IsFlagReading text r → (flag : Bool) → (r ≡ Ok flag) ↔ IsFlagText text flag
exactly_flag text (Ok v) h flag = (λ e. let same : v ≡ flag = cc in rw (← same) h, λ k. ap Ok (same_flag text v flag h k))
exactly_flag text (Err BadLimit) h flag = (λ e. cc, λ k. absurd (h flag k))
exactly_flag text (Err _) h flag = absurd h

pub exactly_no_flag : (text : List ℕ) (r : Result Bool Fault) → IsFlagReading text r → (r ≡ Err BadLimit) ↔ IsNoFlagText text
exactly_no_flag text (Ok v) h = (λ e. cc, λ none. absurd (none v h))
exactly_no_flag text (Err BadLimit) h = (λ e. h, λ none. refl)
exactly_no_flag text (Err _) h = absurd h

pub only_bad_limit : (text : List ℕ) (r : Result Bool Fault) → IsFlagReading text r → IfErr r (λ fault. fault ≡ BadLimit)
only_bad_limit text (Ok v) h = tt
only_bad_limit text (Err BadLimit) h = refl
only_bad_limit text (Err _) h = absurd h

pub flag_reads_back : (flag : Bool) → IsFlagText (flag_text flag) flag
flag_reads_back flag = record { before = []; after = codes "\n"; parts = refl; spaces_before = refl; spaces_after = refl }
