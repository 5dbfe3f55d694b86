-- What a CPU sees while it holds the lock goes on by its own steps, and by no other's.
use Rattle.std.proofs.Common.{◌≡◌, ℕ, Bool, true, false, refl, sym, ◌∙◌, ap, subst, inl, inr, eq-eqb}
use Rattle.std.specs.Prelude.{◌||◌, ◌==◌}
use Rattle.std.proofs.lemmas.Bool.{false≢true, true≢false, or_left}
use Rattle.step_rules.specs.declared.phase.Hold.{Hold}
use Rattle.step_rules.specs.declared.phase.Hold.TheVariants.{HeldBy, Visiting}
use Rattle.step_rules.specs.declared.step.Action.{Action}
use Rattle.step_rules.specs.declared.step.Action.TheVariants.{Lock, Unlock, OpenVisit, ShutVisit}
use Rattle.step_rules.specs.declared.step.Answer.{Answer}
use Rattle.step_rules.specs.declared.step.Answer.TheVariants.{Illegal, Done}
use Rattle.step_rules.specs.State.{State}
use Rattle.step_rules.specs.{is_held_by, visits, is_legal, IsAnswer, IsMade, Allows, after, state_of, holds_lock, seen_by, is_of_lock, OwnStepIsLegal}
use Rattle.step_rules.specs.{OtherStepIsHidden}
use Rattle.step_rules.proofs.LegalTests.{open_visit_tests, shut_visit_tests}
use Rattle.step_rules.proofs.PhaseLemmas.{equal_test}
use Rattle.step_rules.proofs.Runs.{after_illegal, allowed, sound_run, state_more, legal_more}
use Rattle.step_rules.proofs.Own.{own_legal, own_answer, own_after, only_visit}
use Rattle.step_rules.proofs.Other.{other_after}

pub no_illegal : (s : State) (seat : ℕ) (action : Action) → IsAnswer s seat action Illegal → ⊥
no_illegal s seat Lock h = h
no_illegal s seat action h = h

-- a step that is made is allowed
pub made_allows : (s : State) (seat : ℕ) (action : Action) (answer : Answer) → IsMade s seat action answer → Allows s seat action answer
made_allows s seat action Illegal made = absurd (no_illegal s seat action made.answered)
made_allows s seat action answer made = made

held_own : (p q : ℕ) (hold : Hold) → holds_lock p hold ≡ true → is_held_by q hold ≡ true → holds_lock p (Visiting q) ≡ true
held_own p q (HeldBy r) holds held = sym (ap (λ (k : ℕ). holds_lock p (Visiting k)) (equal_test r q held)) ∙ same (r == p) holds
  where
    same : (b : Bool) → (b || false) ≡ true → b ≡ true
    same true e = refl
    same false e = e
held_own p q hold holds held = absurd (false≢true held)

visit_own : (p q : ℕ) (hold : Hold) → holds_lock p hold ≡ true → visits q hold ≡ true → holds_lock p (HeldBy q) ≡ true
visit_own p q hold holds visit = or_left _ false (eq-eqb q p (only_visit p q hold holds visit))

-- a step of p or the zone leaves the lock with p
pub own_holds : (s : State) (p seat : ℕ) (action : Action) (answer : Answer) → is_of_lock action ≡ false → holds_lock p s.hold ≡ true →
    is_legal s seat action ≡ true → holds_lock p (after s seat action answer).hold ≡ true
own_holds s p seat action Illegal inside holds legal = ap (λ (t : State). holds_lock p t.hold) (after_illegal s seat action) ∙ holds
own_holds s p seat Lock answer inside holds legal = absurd (true≢false inside)
own_holds s p seat Unlock answer inside holds legal = absurd (true≢false inside)
own_holds s p seat (OpenVisit q) Done inside holds legal =
    let held : is_held_by q s.hold ≡ true = (open_visit_tests s seat q legal).1 in
    held_own p q s.hold holds held
own_holds s p seat (ShutVisit q) Done inside holds legal =
    let visit : visits q s.hold ≡ true = (shut_visit_tests s seat q legal).1 in
    visit_own p q s.hold holds visit
own_holds s p seat action answer inside holds legal = holds

pub own_step_is_legal : OwnStepIsLegal
own_step_is_legal zone run p local step answer shows is_step counted =
    let s = state_of zone run in
    let sound = sound_run zone run shows.legal in
    let covered : is_legal (seen_by p s) step.seat step.action ≡ true = subst (λ (l : State). is_legal l step.seat step.action ≡ true) shows.sees is_step.legal in
    let legal : is_legal s step.seat step.action ≡ true = sym (own_legal s p step.seat step.action sound is_step.own is_step.inside shows.holds) ∙ covered in
    let seen : IsAnswer (seen_by p s) step.seat step.action answer = subst (λ (l : State). IsAnswer l step.seat step.action answer) shows.sees is_step.answered in
    let answered = own_answer s p step.seat step.action answer sound is_step.own legal seen in
    let more = state_more zone run step answer in
    record {
      legal = legal_more zone run step answer shows.legal (made_allows s step.seat step.action answer
          (record { legal = legal; answered = answered; counted = counted }));
      holds = ap (λ (t : State). holds_lock p t.hold) more ∙ own_holds s p step.seat step.action answer is_step.inside shows.holds legal;
      sees =
          ap (λ (l : State). after l step.seat step.action answer) shows.sees
          ∙ sym (own_after s p step.seat step.action answer sound is_step.own is_step.inside shows.holds legal answered counted)
          ∙ sym (ap (seen_by p) more);
    }

pub other_step_is_hidden : OtherStepIsHidden
other_step_is_hidden zone run p local step answer shows who ok =
    let s = state_of zone run in
    let sound = sound_run zone run shows.legal in
    let more = state_more zone run step answer in
    let nothing : answer ≡ Illegal → seen_by p (after s step.seat step.action answer) ≡ seen_by p s =
    λ illegal. ap (seen_by p) (ap (after s step.seat step.action) illegal ∙ after_illegal s step.seat step.action) in
    let hidden : seen_by p (after s step.seat step.action answer) ≡ seen_by p s = elim (allowed s step.seat step.action answer ok) [
      | inl illegal ↦ nothing illegal
      | inr made ↦ elim who [
        | inl other ↦ other_after s p step.seat step.action answer sound other.0 other.1 shows.holds made.legal made.answered
        | inr illegal ↦ nothing illegal
      ]
    ] in
    record {
      legal = legal_more zone run step answer shows.legal ok;
      holds = ap (λ (t : State). holds_lock p t.hold) more ∙ ap (λ (t : State). holds_lock p t.hold) hidden ∙ shows.holds;
      sees = shows.sees ∙ sym hidden ∙ sym (ap (seen_by p) more);
    }
