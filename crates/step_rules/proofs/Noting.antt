-- How a step changes the counts of events. Serves `events_are_counted`.
use Rattle.std.proofs.Common.{◌≡◌, ℕ, ◌+◌, Bool, true, false, List, [], ◌∷◌, refl, ◌∙◌, ap, arith, inl, inr, cond}
use Rattle.std.specs.Prelude.{min}
use Rattle.std.specs.List.{fold}
use Rattle.std.proofs.lemmas.Bool.{cases_lt}
use Rattle.std.proofs.lemmas.List.Sums.{fold_push}
use Rattle.group_tree.specs.declared.group.Group.{Group}
use Rattle.group_tree.specs.Room.{max_count}
use Rattle.step_rules.specs.declared.step.Step.{Step}
use Rattle.step_rules.specs.declared.step.Action.{Action}
use Rattle.step_rules.specs.declared.step.Answer.{Answer}
use Rattle.step_rules.specs.{Zone, at_boot, one_if, Run, state_of, pushed, is_noted_in_subtree, is_noted_at, makes_group, with_passed}
use Rattle.step_rules.specs.{passed_since_made, count_after, EventsAreCounted}
use Rattle.step_rules.specs.State.{State}
use Rattle.step_rules.proofs.Runs.{next}

abbrev Test : Type 0
Test = List Group → Action → Answer → Bool

beside : (test : Test) (g : ℕ) (run : Run) (t : State × ℕ) → (fold (with_passed test g) t run).0 ≡ fold next t.0 run
beside test g [] t = refl
beside test g (e ∷ run) t = beside test g run (with_passed test g t e)

one_more_passed : (made noted : Bool) (n most : ℕ) →
    min (cond made 0 (n + one_if noted)) most ≡ cond made 0 (cond noted (min (min n most + 1) most) (min n most))
one_more_passed true noted n most = omega arith
one_more_passed false true n most = elim (cases_lt n most) [ inl h ↦ omega arith | inr h ↦ omega arith ]
one_more_passed false false n most = omega arith

passed_more : (test : Test) (g : ℕ) (zone : Zone) (run : Run) (step : Step) (answer : Answer) →
    min (passed_since_made test g zone (pushed run step answer)) max_count
    ≡ count_after test g (state_of zone run).groups step.action answer (min (passed_since_made test g zone run) max_count)
passed_more test g zone run step answer =
    let told : State × ℕ = fold (with_passed test g) (at_boot zone, 0) run in
    let pushed_so = fold_push (with_passed test g) (at_boot zone, 0) run (step, answer) in
    let same : told.0 ≡ state_of zone run = beside test g run (at_boot zone, 0) in
    ap (λ (t : State × ℕ). min t.1 max_count) pushed_so
    ∙ one_more_passed (makes_group g step.action answer) (test told.0.groups step.action answer) told.1 max_count
    ∙ ap (λ (t : State). count_after test g t.groups step.action answer (min told.1 max_count)) same

pub events_are_counted : EventsAreCounted
events_are_counted = record {
  boot = λ zone key g. (omega arith, omega arith);
  step = λ zone run step answer key g. record {
    below = passed_more (is_noted_in_subtree key g) g zone run step answer;
    local = passed_more (is_noted_at key g) g zone run step answer;
  };
}
