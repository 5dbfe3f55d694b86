-- What is read from the text of an amount, and that it is nothing else. Serves `read_amount`.
use Rattle.std.proofs.Common.{◌≡◌, ℕ, List, refl, sym, ◌∙◌, ap, arith, inl, inr}
use Rattle.std.specs.Prelude.{Option, Some, None, Result, Ok, Err, ◌↔◌, ◌⊎◌, IfErr, ok_or, option_copied}
use Rattle.std.specs.Borrow.{Bor}
use Rattle.std.specs.Int.{div_ceil}
use Rattle.group_tree.specs.declared.fault.Fault.{Fault}
use Rattle.group_tree.specs.declared.fault.Fault.TheVariants.{BadLimit, BadNumber}
use Rattle.control_files.proofs.GrammarLemmas.{has_only_word, same_value}
use Rattle.control_files.proofs.ReadingLemmas.{limit_text, limit_word}
use Rattle.control_files.specs.Limit.{page_bytes, IsLimitText, ReadsAmount, IsTooGreat, IsNoAmountText}
use Rattle.control_files.specs.Reading.{HasOnlyWord, IsOnlyWord, IsAmountReading, IsPagesReading}

no_word_pages : (text : List ℕ) → ((word : List ℕ) → ¬ HasOnlyWord text word) → IsPagesReading text (Err BadLimit)
no_word_pages text missing amount t = missing t.word (has_only_word text (Some amount) t)

pub no_pages : (text : List ℕ) (found : Option (Bor (List ℕ))) (fault : Fault) → IsOnlyWord text (option_copied found) →
    ◌≡◌ {A = Result (Bor (List ℕ)) Fault} (Err fault) (ok_or found BadLimit) → IsPagesReading text (Err fault)
no_pages text None fault missing is = let same : fault ≡ BadLimit = cc in rw same (no_word_pages text missing)
no_pages text (Some word) fault missing is = cc

pub pages_reading : (text word : List ℕ) (amount : ℕ) → HasOnlyWord text word → IsAmountReading word (Ok amount)
    → IsPagesReading text (Ok (div_ceil amount page_bytes))
pages_reading text word amount h a =
    record { amount = amount; grammar = limit_text text word (Some amount) h a.0; in_range = a.1; pages_are = refl }

pub refused_pages : (text word : List ℕ) (fault : Fault) → HasOnlyWord text word → IsAmountReading word (Err fault) → IsPagesReading text (Err fault)
refused_pages text word BadLimit h refused = λ amount t. refused amount (limit_word text word (Some amount) h t)
refused_pages text word BadNumber h refused = (refused.0, refused.1, limit_text text word (Some refused.0) h refused.2)
refused_pages text word _ h refused = absurd refused

-- a text has one amount
one_amount : (text : List ℕ) (m n : ℕ) → IsLimitText text (Some m) → IsLimitText text (Some n) → m ≡ n
one_amount text m n h k = let same : Some m ≡ Some n = same_value text (Some m) (Some n) h k in cc

-- a text is read in one way
reads_one : (text : List ℕ) (m n : ℕ) → ReadsAmount text m → ReadsAmount text n → m ≡ n
reads_one text m n h k = h.pages_are
    ∙ (ap (λ (a : ℕ). div_ceil a page_bytes) (one_amount text h.amount k.amount h.grammar k.grammar) ∙ sym k.pages_are)

reads_small : (text : List ℕ) (pages : ℕ) → ReadsAmount text pages → IsTooGreat text → ⊥
reads_small text pages h great =
    let same : h.amount ≡ great.0 = one_amount text h.amount great.0 h.grammar great.2 in
    omega (arith, great.1, h.in_range, same)

pub exactly_pages : (text : List ℕ) (r : Result ℕ Fault) → IsPagesReading text r → (pages : ℕ) → (r ≡ Ok pages) ↔ ReadsAmount text pages
exactly_pages text (Ok n) h pages = (λ e. let same : n ≡ pages = cc in rw (← same) h, λ k. ap Ok (reads_one text n pages h k))
exactly_pages text (Err BadNumber) h pages = (λ e. cc, λ k. absurd (reads_small text pages k h))
exactly_pages text (Err BadLimit) h pages = (λ e. cc, λ k. absurd (h k.amount k.grammar))
exactly_pages text (Err _) h pages = absurd h

pub exactly_too_great : (text : List ℕ) (r : Result ℕ Fault) → IsPagesReading text r → (r ≡ Err BadNumber) ↔ IsTooGreat text
exactly_too_great text (Ok n) h = (λ e. cc, λ great. absurd (reads_small text n h great))
exactly_too_great text (Err BadNumber) h = (λ e. h, λ great. refl)
exactly_too_great text (Err BadLimit) h = (λ e. cc, λ great. absurd (h great.0 great.2))
exactly_too_great text (Err _) h = absurd h

pub exactly_no_amount : (text : List ℕ) (r : Result ℕ Fault) → IsPagesReading text r → (r ≡ Err BadLimit) ↔ IsNoAmountText text
exactly_no_amount text (Ok n) h = (λ e. cc, λ none. absurd (none h.amount h.grammar))
exactly_no_amount text (Err BadNumber) h = (λ e. cc, λ none. absurd (none h.0 h.2))
exactly_no_amount text (Err BadLimit) h = (λ e. h, λ none. refl)
exactly_no_amount text (Err _) h = absurd h

pub only_amount_refusals : (text : List ℕ) (r : Result ℕ Fault) → IsPagesReading text r → IfErr r (λ fault. (fault ≡ BadNumber) ⊎ (fault ≡ BadLimit))
only_amount_refusals text (Ok n) h = tt
only_amount_refusals text (Err BadNumber) h = inl refl
only_amount_refusals text (Err BadLimit) h = inr refl
only_amount_refusals text (Err _) h = absurd h
