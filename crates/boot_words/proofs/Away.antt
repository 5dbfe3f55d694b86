-- A CPU that doesn't hold the lock doesn't come to hold it by others' steps.
use Rattle.std.proofs.Common.{[], ◌≡◌, ◌≢◌, ℕ, ◌==◌, ◌||◌, Bool, true, false, ◌∷◌, suc, zero, refl, sym, ◌∙◌, ap, subst, inl, inr}
use Rattle.std.specs.List.{fold}
use Rattle.std.proofs.lemmas.Bool.{false≢true, ne_eqb}
use Rattle.step_rules.specs.declared.phase.Hold.{Hold}
use Rattle.step_rules.specs.declared.phase.Hold.TheVariants.{HeldBy}
use Rattle.step_rules.specs.declared.step.Action.{Action}
use Rattle.step_rules.specs.declared.step.Action.TheVariants.{Lock, Unlock, OpenVisit, ShutVisit, Absorb, Fill}
use Rattle.step_rules.specs.declared.step.Answer.{Answer}
use Rattle.step_rules.specs.declared.step.Answer.TheVariants.{Illegal, Done}
use Rattle.step_rules.specs.State.{State}
use Rattle.step_rules.specs.{at_boot, is_held_by, visits, Allows, is_legal, Run, after, state_of, holds_lock}
use Rattle.step_rules.proofs.LegalTests.{absorb_tests, fill_tests, open_visit_tests, shut_visit_tests}
use Rattle.step_rules.proofs.PhaseLemmas.{equal_test, visited}
use Rattle.step_rules.proofs.Runs.{next, after_illegal, allowed, IsLegalFrom}
use Rattle.boot_words.specs.{HasNoStepOf, books, AwayStays, HasSameOrDrained}
use Rattle.boot_words.proofs.Draining.{drained_twice, legal_behind, same_part, stock_step}
use Rattle.boot_words.proofs.Owning.{fold_on}

or_none : (b : Bool) → b ≡ false → (b || false) ≡ false
or_none b e = ap (λ (c : Bool). c || false) e

none_or : (b : Bool) → (b || false) ≡ false → b ≡ false
none_or true e = e
none_or false e = refl

-- who visits or holds the lock is another CPU
other_visits : (p r : ℕ) (hold : Hold) → holds_lock p hold ≡ false → visits r hold ≡ true → (r == p) ≡ false
other_visits p r hold away visit = sym (ap (holds_lock p) (visited r hold visit)) ∙ away

other_holds : (p r : ℕ) (hold : Hold) → holds_lock p hold ≡ false → is_held_by r hold ≡ true → (r == p) ≡ false
other_holds p r (HeldBy q) away held = sym (ap (λ (k : ℕ). k == p) (equal_test q r held)) ∙ none_or (q == p) away
other_holds p r hold away held = absurd (false≢true held)

away_step : (s : State) (q p : ℕ) (action : Action) (answer : Answer) → q ≢ p → holds_lock p s.hold ≡ false → is_legal s q action ≡ true
    → holds_lock p (after s q action answer).hold ≡ false
away_step s q p action Illegal ne away legal = ap (λ (t : State). holds_lock p t.hold) (after_illegal s q action) ∙ away
away_step s q p Lock Done ne away legal = or_none (q == p) (ne_eqb q p ne)
away_step s q p Lock answer ne away legal = away
away_step s q p Unlock Done ne away legal = refl
away_step s q p (OpenVisit r) Done ne away legal = other_holds p r s.hold away (open_visit_tests s q r legal).1
away_step s q p (ShutVisit r) Done ne away legal = or_none (r == p) (other_visits p r s.hold away (shut_visit_tests s q r legal).1)
away_step s q p action answer ne away legal = away

books_other : (s : State) (q p : ℕ) (action : Action) → holds_lock p s.hold ≡ false → is_legal s q action ≡ true → books p action ≡ false
books_other s q p (Fill r g n) away legal = other_visits p r s.hold away (fill_tests s q r g n legal).1
books_other s q p (Absorb r) away legal = other_visits p r s.hold away (absorb_tests s q r legal).1
books_other s q p action away legal = refl

-- after s comes t, and the CPU still doesn't hold the lock
abbrev pub StaysAway : ℕ → State → State → Type 0
StaysAway p s t = (holds_lock p t.hold ≡ false) × HasSameOrDrained (s.parts p) (t.parts p)

away_one : (s : State) (q p : ℕ) (action : Action) (answer : Answer) → q ≢ p → holds_lock p s.hold ≡ false → Allows s q action answer
    → StaysAway p s (after s q action answer)
away_one s q p action answer ne away ok = elim (allowed s q action answer ok) [
  | inl illegal ↦ subst (StaysAway p s) (sym (ap (after s q action) illegal ∙ after_illegal s q action)) (away, same_part _ _ refl)
  | inr made ↦ (away_step s q p action answer ne away made.legal, stock_step s q p action answer ne (books_other s q p action away made.legal) made)
]

away_rest : (s : State) (p : ℕ) (rest : Run) → IsLegalFrom s rest → HasNoStepOf p rest → holds_lock p s.hold ≡ false → StaysAway p s (fold next s rest)
away_rest s p [] legal none away = (away, same_part _ _ refl)
away_rest s p (e ∷ rest) legal none away =
    let one = away_one s e.0.seat p e.0.action e.1 none.0 away (legal zero) in
    let more = away_rest (next s e) p rest (λ k. legal (suc k)) none.1 one.0 in
    (more.0, drained_twice _ _ _ one.1 more.1)

pub away_stays : AwayStays
away_stays zone seen rest cpu legal none away =
    subst (StaysAway cpu (state_of zone seen)) (sym (fold_on (at_boot zone) seen rest))
    (away_rest (state_of zone seen) cpu rest (legal_behind (at_boot zone) seen rest legal) none away)
