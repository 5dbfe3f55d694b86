-- What a seat's past left still stands after the run.
use Rattle.std.proofs.Common.{[], ◌≡◌, ℕ, false, ◌∷◌, ◌++◌, length, refl, ap, sym, ◌∙◌, subst, inl, inr, append_assoc}
use Rattle.std.proofs.lemmas.Bool.{cases_Bool}
use Rattle.step_rules.specs.declared.step.Action.{Action}
use Rattle.step_rules.specs.declared.step.Action.TheVariants.{Absorb, Fill}
use Rattle.step_rules.specs.{Zone, Run, state_of, IsLegalRun, holds_lock}
use Rattle.step_rules.proofs.Runs.{legal_from}
use Rattle.boot_words.specs.{hide, BooksNothingOf, HasNoStepOf, IsFast, books, HasSameOrDrained, AreFast, BeginsRun}
use Rattle.boot_words.specs.declared.past.Past.{Past}
use Rattle.boot_words.proofs.Away.{away_stays}
use Rattle.boot_words.proofs.Draining.{stocks_are_own}
use Rattle.boot_words.proofs.Hiding.{fast_is_hidden}
use Rattle.boot_words.proofs.Holding.{allowed_at, append_none, take_length}

legal_before : (zone : Zone) (xs ys : Run) → IsLegalRun zone (xs ++ ys) → IsLegalRun zone xs
legal_before zone xs ys legal = subst (IsLegalRun zone) (take_length xs ys) (legal_from zone (xs ++ ys) (length xs) legal)

-- ---- what everybody sees
fast_hidden : (zone : Zone) (seen rest : Run) → IsLegalRun zone (seen ++ rest) → HasNoStepOf 0 rest → AreFast rest → hide (state_of zone (seen ++ rest)) ≡ hide (state_of zone seen)
fast_hidden zone seen [] legal none fast = ap (λ r. hide (state_of zone r)) (append_none seen)
fast_hidden zone seen (e ∷ rest) legal none fast =
    let more = append_assoc seen (e ∷ []) rest in
    ap (λ r. hide (state_of zone r)) (sym more) ∙ fast_hidden zone (seen ++ e ∷ []) rest (subst (IsLegalRun zone) (sym more) legal) none.1 fast.1
    ∙ (fast_is_hidden zone seen 0 e.0 e.1 (legal_before zone seen (e ∷ rest) legal) none.0 none.0 fast.0 (allowed_at zone seen e rest legal)).hidden

-- with every CPU's own part hidden, the run leaves what the zone's past left
pub zone_left : (zone : Zone) (run : Run) (p : Past) → IsLegalRun zone run → BeginsRun zone run p → p.number ≡ 0 → hide (state_of zone run) ≡ hide (state_of zone p.seen)
zone_left zone run p legal begin zeroth =
    ap (λ r. hide (state_of zone r)) begin.goes.is
    ∙ fast_hidden zone p.seen begin.goes.rest (subst (IsLegalRun zone) begin.goes.is legal) (subst (λ q. HasNoStepOf q begin.goes.rest) zeroth begin.goes.others) (begin.fast (inl zeroth))

-- ---- a CPU's stock
no_books : (cpu : ℕ) (action : Action) → IsFast action → books cpu action ≡ false
no_books cpu (Fill other g n) fast = absurd fast
no_books cpu (Absorb other) fast = absurd fast
no_books cpu action fast = refl

books_none : (cpu : ℕ) (rest : Run) → AreFast rest → BooksNothingOf cpu rest
books_none cpu [] fast = tt
books_none cpu (e ∷ rest) fast = (no_books cpu e.0.action fast.0, books_none cpu rest fast.1)

-- a CPU's stock and its unreported pages are those that its past left, or the stock was drained since
pub cpu_left : (zone : Zone) (run : Run) (p : Past) → IsLegalRun zone run → BeginsRun zone run p
    → HasSameOrDrained ((state_of zone p.seen).parts p.number) ((state_of zone run).parts p.number)
cpu_left zone run p legal begin =
    let goes = begin.goes in
    let q = p.number in
    let longer : IsLegalRun zone (p.seen ++ goes.rest) = subst (IsLegalRun zone) goes.is legal in
    subst (λ r. HasSameOrDrained ((state_of zone p.seen).parts q) ((state_of zone r).parts q)) (sym goes.is)
    (elim (cases_Bool (holds_lock q (state_of zone p.seen).hold)) [
      | inl holds ↦ stocks_are_own zone p.seen goes.rest q longer goes.others (books_none q goes.rest (begin.fast (inr holds)))
      | inr away ↦ (away_stays zone p.seen goes.rest q longer goes.others away).1
    ])
