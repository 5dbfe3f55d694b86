-- Each allowed step counts references as its answer says. Serves `the_promise_is_kept`.
use Rattle.std.proofs.Common.{◌≡◌, ℕ, ◌+◌, ◌-◌, ◌≤◌, ◌&&◌, ◌==◌, Bool, true, false, is_some, refl, sym, ◌∙◌, ap, arith, inl, inr, cond, eq-eqb}
use Rattle.std.specs.Prelude.{nat_le}
use Rattle.std.proofs.lemmas.Bool.{cases_eq, cases_Bool, false≢true, and_parts, leb-true, le-leb}
use Rattle.step_rules.specs.declared.step.Action.{Action}
use Rattle.step_rules.specs.declared.step.Action.TheVariants.{Get, Put, Freeze}
use Rattle.step_rules.specs.declared.step.Answer.{Answer}
use Rattle.step_rules.specs.declared.step.Answer.TheVariants.{Done, Held, Zero, Full, Left, Last}
use Rattle.step_rules.specs.{is_live_phase, unit_of, Zone, sum_to, is_cpu, live_references, Allows, get_answer, Run, after, state_of, IsLegalRun}
use Rattle.step_rules.specs.{references_had, references_on, CountsReferences}
use Rattle.step_rules.specs.State.{State}
use Rattle.step_rules.proofs.LegalTests.{get_tests, put_tests, freeze_tests}
use Rattle.step_rules.proofs.Sums.{sum_none, sum_part}
use Rattle.step_rules.proofs.PhaseLemmas.{equal_test, live_is}
use Rattle.step_rules.proofs.Referring.{live_from_references, seat_there}
use Rattle.step_rules.proofs.Runs.{sound_run, one_more, state_more, legal_more}
use Rattle.step_rules.proofs.Freeing.{zone_of_run}
use Rattle.step_rules.proofs.Counting.{references_are_counted}
use Rattle.step_rules.proofs.Living.{held_range, sum_changed, live_are_referenced}
use Rattle.step_rules.proofs.Uniting.{units_follow_the_run}

-- ---- how many references an answer says
no_zero : (a b c : Bool) → a ≡ true → b ≡ true → ◌≡◌ {A = Answer} Zero (cond (a && b) Held (cond c Full Zero)) → ⊥
no_zero true true c x y h = cc
no_zero false b c x y h = absurd (false≢true x)
no_zero true false c x y h = absurd (false≢true y)

not_full : (a b : Bool) → b ≡ true → ◌≡◌ {A = Answer} Zero (cond a Held (cond b Full Zero)) → ⊥
not_full true true x h = cc
not_full false true x h = cc
not_full a false x h = absurd (false≢true x)

full_case : (a b : Bool) → ◌≡◌ {A = Answer} Full (cond a Held (cond b Full Zero)) → b ≡ true
full_case a true h = refl
full_case true false h = cc
full_case false false h = cc

zero_none : (n : ℕ) → Zero ≡ get_answer n → n ≤ 255 → n ≡ 0
zero_none n h top =
    elim (cases_eq n 0) [
      | inl none ↦ none
      | inr some ↦ elim (cases_eq n 255) [
        | inl all ↦ absurd (not_full (nat_le 1 n && nat_le n 254) (n == 255) (eq-eqb n 255 all) h)
        | inr few ↦ absurd (no_zero (nat_le 1 n) (nat_le n 254) (n == 255) (le-leb 1 n (omega arith)) (le-leb n 254 (omega arith)) h)
      ]
    ]

full_all : (n : ℕ) → Full ≡ get_answer n → n ≡ 255
full_all n h = equal_test n 255 (full_case (nat_le 1 n && nat_le n 254) (n == 255) h)

-- ---- how many there are after a step
one_more_left : (t r l : ℕ) → t + r ≡ l + (r + 1) → t ≡ l + 1
one_more_left t r l e = omega arith

one_less_left : (t r l n : ℕ) → t + r ≡ l + (r - 1) → 1 ≤ r → l ≡ n + 1 → t ≡ n
one_less_left t r l n e some had = omega arith

none_left : (t r l n : ℕ) → t + r ≡ l + (r - n) → r ≡ n → l ≡ n → t ≡ 0
none_left t r l n e all had = omega arith

-- ---- by the run as in the state
had_is : (zone : Zone) (run : Run) → IsLegalRun zone run → (seat f : ℕ) → references_had run seat f ≡ (state_of zone run).references seat f
had_is zone run legal seat f = let told = references_are_counted zone run legal seat f in omega arith

on_is : (zone : Zone) (run : Run) → IsLegalRun zone run → (f : ℕ) → references_on zone run f ≡ live_references (state_of zone run) f
on_is zone run legal f =
    let zone_is : (state_of zone run).zone ≡ zone = zone_of_run zone run in
    λ i. sum_to ((sym zone_is i).cpus + 1) (λ seat. had_is zone run legal seat f i)

at_most_255 : (zone : Zone) (run : Run) → IsLegalRun zone run → (f : ℕ) → live_references (state_of zone run) f ≤ 255
at_most_255 zone run legal f =
    let s = state_of zone run in
    let told = live_are_referenced zone run legal f in
    elim (cases_Bool (is_live_phase (s.phases f))) [
      | inl live ↦ (told.some live).1
      | inr dead ↦ let none = sum_none (s.zone.cpus + 1) (λ seat. s.references seat f) (λ seat below. told.none dead seat) in omega arith
    ]

module _ (zone : Zone) (run : Run) (legal : IsLegalRun zone run) where
  left_is : (seat : ℕ) (action : Action) (answer : Answer) → Allows (state_of zone run) seat action answer → (f : ℕ) →
      references_on zone (one_more run (record { seat = seat; action = action }) answer) f ≡ live_references (after (state_of zone run) seat action answer) f
  left_is seat action answer ok f =
      on_is zone (one_more run (record { seat = seat; action = action }) answer) (legal_more zone run (record { seat = seat; action = action }) answer legal ok) f
      ∙ ap (λ (s : State). live_references s f) (state_more zone run (record { seat = seat; action = action }) answer)

  pub references_kept : (seat : ℕ) (action : Action) (answer : Answer) → Allows (state_of zone run) seat action answer →
      CountsReferences zone run (one_more run (record { seat = seat; action = action }) answer) seat action answer
  references_kept seat (Get f) Held ok =
      let s = state_of zone run in
      let cpu : is_cpu s.zone seat ≡ true = (get_tests s seat f ok.legal).0 in
      let there : seat ≤ s.zone.cpus = leb-true seat s.zone.cpus (and_parts (nat_le 1 seat) (nat_le seat s.zone.cpus) cpu).1 in
      let range = held_range (live_references s f) ok.counted in
      let live = live_is (s.phases f) (live_from_references s f (sound_run zone run legal) range.0) in
      let on = on_is zone run legal f in
      let more = one_more_left (live_references (after s seat (Get f) Held) f) (s.references seat f) (live_references s f)
      (sum_changed s seat f (s.references seat f + 1) there) in (
        sym (ap is_some (units_follow_the_run zone run legal f).unit) ∙ ap (λ y. is_some (unit_of y)) live.1,
        let low = range.0 in omega arith,
        let high = range.1 in omega arith,
        left_is seat (Get f) Held ok f ∙ more ∙ ap (λ n. n + 1) (sym on),
      )
  references_kept seat (Get f) Zero ok = on_is zone run legal f ∙ zero_none (live_references (state_of zone run) f) ok.counted (at_most_255 zone run legal f)
  references_kept seat (Get f) Full ok = on_is zone run legal f ∙ full_all (live_references (state_of zone run) f) ok.counted
  references_kept seat (Put f) (Left n) ok =
      let s = state_of zone run in
      let had = had_is zone run legal seat f in
      let some : 1 ≤ s.references seat f = leb-true 1 (s.references seat f) (put_tests s seat f ok.legal).2 in
      let there = seat_there s seat f (sound_run zone run legal) some in (
        omega arith,
        left_is seat (Put f) (Left n) ok f
            ∙ one_less_left (live_references (after s seat (Put f) (Left n)) f) (s.references seat f) (live_references s f) n
            (sum_changed s seat f (s.references seat f - 1) there) some ok.counted.0,
        ok.counted.1,
      )
  references_kept seat (Put f) Last ok =
      let s = state_of zone run in
      let had = had_is zone run legal seat f in
      let some : 1 ≤ s.references seat f = leb-true 1 (s.references seat f) (put_tests s seat f ok.legal).2 in
      let there = seat_there s seat f (sound_run zone run legal) some in (
        omega arith,
        left_is seat (Put f) Last ok f
            ∙ one_less_left (live_references (after s seat (Put f) Last) f) (s.references seat f) (live_references s f) 0
            (sum_changed s seat f (s.references seat f - 1) there) some ok.counted,
      )
  references_kept seat (Freeze f n) Done ok =
      let s = state_of zone run in
      let tests = freeze_tests s seat f n ok.legal in
      let had = had_is zone run legal 0 f in
      let part = sum_part (s.zone.cpus + 1) (λ seat. s.references seat f) 0 (omega arith) in
      let enough : n ≤ s.references 0 f = leb-true n (s.references 0 f) tests.3 in
      let exact : live_references s f ≡ n = ok.counted in
      let all : s.references 0 f ≡ n = omega arith in (
        leb-true 1 n tests.2,
        had ∙ all,
        left_is seat (Freeze f n) Done ok f
            ∙ none_left (live_references (after s seat (Freeze f n) Done) f) (s.references 0 f) (live_references s f) n
            (sum_changed s 0 f (s.references 0 f - n) (omega arith)) all exact,
      )
  references_kept seat action answer ok = tt
