-- What is read from a text, and that it is nothing else. Serves `read_limit` and `read_amount`.
use Rattle.std.proofs.Common.{◌≡◌, ◌≢◌, ℕ, ◌^◌, ◌<◌, List, refl, sym, ◌∙◌, ap, subst, arith, inl, inr}
use Rattle.std.specs.Prelude.{Option, Some, None, Result, Ok, Err, codes, ◌↔◌, ◌⊎◌, IfErr, ok_or, option_copied}
use Rattle.std.specs.Borrow.{Bor}
use Rattle.group_tree.specs.declared.fault.Fault.{Fault}
use Rattle.group_tree.specs.declared.fault.Fault.TheVariants.{BadLimit, BadNumber}
use Rattle.control_files.proofs.GrammarLemmas.{has_only_word, same_only_word, same_value}
use Rattle.control_files.specs.{IsAmount, IsLimitWord, IsLimitText, pages_covering, ReadsAs, IsTooGreat, IsNoLimitText, HasOnlyWord, IsOnlyWord}
use Rattle.control_files.specs.{IsAmountReading, IsReading}

pub limit_text : (text word : List ℕ) (value : Option ℕ) → HasOnlyWord text word → IsLimitWord word value → IsLimitText text value
limit_text text word value h word_is = record {
  before = h.before;
  word = word;
  after = h.after;
  parts = h.parts;
  spaces_before =
      h.spaces_before;
  spaces_after = h.spaces_after;
  word_is = word_is;
}

pub limit_word : (text word : List ℕ) (value : Option ℕ) → HasOnlyWord text word → IsLimitText text value → IsLimitWord word value
limit_word text word value h t =
    let P : List ℕ → Type 0 = λ w. IsLimitWord w value in
    subst P (same_only_word text t.word word (has_only_word text value t) h) t.word_is

-- the ways of the reader
no_word_reading : (text : List ℕ) → ((word : List ℕ) → ¬ HasOnlyWord text word) → IsReading text (Err BadLimit)
no_word_reading text missing value t = missing t.word (has_only_word text value t)

pub word_refused : (text : List ℕ) (found : Option (Bor (List ℕ))) (fault : Fault) → IsOnlyWord text (option_copied found) →
    ◌≡◌ {A = Result (Bor (List ℕ)) Fault} (Err fault) (ok_or found BadLimit) → IsReading text (Err fault)
word_refused text None fault missing is = let same : fault ≡ BadLimit = cc in rw same (no_word_reading text missing)
word_refused text (Some word) fault missing is = cc

pub max_reading : (text word : List ℕ) → HasOnlyWord text word → word ≡ codes "max" → IsReading text (Ok None)
max_reading text word h is_max = record { value = None; grammar = limit_text text word None h is_max; in_range = tt; pages = refl }

pub amount_reading : (text word : List ℕ) (amount : ℕ) → HasOnlyWord text word → IsAmountReading word (Ok amount) → IsReading text (Ok (pages_covering (Some amount)))
amount_reading text word amount h a = record { value = Some amount; grammar = limit_text text word (Some amount) h a.0; in_range = a.1; pages = refl }

no_value : (text word : List ℕ) → HasOnlyWord text word → word ≢ codes "max" → ((amount : ℕ) → ¬ IsAmount word amount) → (value : Option ℕ) →
    ¬ IsLimitText text value
no_value text word h other_word refused None t = other_word (limit_word text word None h t)
no_value text word h other_word refused (Some amount) t = refused amount (limit_word text word (Some amount) h t)

pub refused_reading : (text word : List ℕ) (fault : Fault) → HasOnlyWord text word → word ≢ codes "max" → IsAmountReading word (Err fault) →
    IsReading text (Err fault)
refused_reading text word BadLimit h other_word refused = no_value text word h other_word refused
refused_reading text word BadNumber h other_word refused = (refused.0, refused.1, limit_text text word (Some refused.0) h refused.2)
refused_reading text word _ h other_word refused = absurd refused

-- a text is read in one way
reads_one : (text : List ℕ) (l m : Option ℕ) → ReadsAs text l → ReadsAs text m → l ≡ m
reads_one text l m h k = h.pages ∙ (ap pages_covering (same_value text h.value k.value h.grammar k.grammar) ∙ sym k.pages)

reads_small : (text : List ℕ) (l : Option ℕ) → ReadsAs text l → IsTooGreat text → ⊥
reads_small text l h great =
    let same : h.value ≡ Some great.0 = same_value text h.value (Some great.0) h.grammar great.2 in
    let small : great.0 < 2 ^ 64 = rw same at h.in_range in
    omega (arith, great.1)

pub exactly_ok : (text : List ℕ) (r : Result (Option ℕ) Fault) → IsReading text r → (limit : Option ℕ) → (r ≡ Ok limit) ↔ ReadsAs text limit
exactly_ok text (Ok l) h limit = (λ e. let same : l ≡ limit = cc in rw (← same) h, λ k. ap Ok (reads_one text l limit h k))
exactly_ok text (Err BadNumber) h limit = (λ e. cc, λ k. absurd (reads_small text limit k h))
exactly_ok text (Err BadLimit) h limit = (λ e. cc, λ k. absurd (h k.value k.grammar))
exactly_ok text (Err _) h limit = absurd h

pub exactly_number : (text : List ℕ) (r : Result (Option ℕ) Fault) → IsReading text r → (r ≡ Err BadNumber) ↔ IsTooGreat text
exactly_number text (Ok l) h = (λ e. cc, λ great. absurd (reads_small text l h great))
exactly_number text (Err BadNumber) h = (λ e. h, λ great. refl)
exactly_number text (Err BadLimit) h = (λ e. cc, λ great. absurd (h (Some great.0) great.2))
exactly_number text (Err _) h = absurd h

pub exactly_limit : (text : List ℕ) (r : Result (Option ℕ) Fault) → IsReading text r → (r ≡ Err BadLimit) ↔ IsNoLimitText text
exactly_limit text (Ok l) h = (λ e. cc, λ none. absurd (none h.value h.grammar))
exactly_limit text (Err BadNumber) h = (λ e. cc, λ none. absurd (none (Some h.0) h.2))
exactly_limit text (Err BadLimit) h = (λ e. h, λ none. refl)
exactly_limit text (Err _) h = absurd h

pub only_refusals : (text : List ℕ) (r : Result (Option ℕ) Fault) → IsReading text r → IfErr r (λ fault. (fault ≡ BadNumber) ⊎ (fault ≡ BadLimit))
only_refusals text (Ok l) h = tt
only_refusals text (Err BadNumber) h = inl refl
only_refusals text (Err BadLimit) h = inr refl
only_refusals text (Err _) h = absurd h
