-- Runs whose last step counts references wrongly.
use Rattle.std.proofs.Common.{◌<◌, ◌≤◌, ◌==◌, [], ◌∷◌, ◌++◌, refl, ap, arith}
use Rattle.std.proofs.lemmas.Bool.{true≢false, false≢true}
use Rattle.step_rules.specs.declared.step.Step.{Step}
use Rattle.step_rules.specs.declared.step.Action.TheVariants.{Get, Put, Freeze}
use Rattle.step_rules.specs.declared.step.Answer.{Answer}
use Rattle.step_rules.specs.declared.step.Answer.TheVariants.{Done, Held, Zero, Full, Left, Last}
use Rattle.step_rules.specs.State.{sum_to}
use Rattle.step_rules.specs.{Run, IsLegalRun, KeepsLimits, ReturnsNoFrameTwice, small_zone, life_of_a_frame, at_the_borders, BreaksPromise}
use Rattle.step_rules.specs.{MiscountsReferences, kept_run, referred_twice, referred_by_one, never_referred, referred_fully, given_in_no_unit}
use Rattle.step_rules.proofs.LentTo.{beginnings_are_legal}
use Rattle.step_rules.proofs.SmallRuns.{life_is_legal, borders_are_kept}
use Rattle.step_rules.proofs.ShownStates.{kept_run_is_legal}
use Rattle.step_rules.specs.After.{cpu_makes, zone_makes}

twice_is_legal : IsLegalRun small_zone referred_twice
twice_is_legal = beginnings_are_legal small_zone life_of_a_frame life_is_legal 17

never_is_legal : IsLegalRun small_zone never_referred
never_is_legal = beginnings_are_legal small_zone at_the_borders borders_are_kept 4

fully_is_legal : IsLegalRun small_zone referred_fully
fully_is_legal = beginnings_are_legal small_zone at_the_borders borders_are_kept 6

-- the parts of a miscount in a row
miscounts : {run : Run} {step : Step × Answer} → IsLegalRun small_zone run → KeepsLimits small_zone run step.0.action step.1
    → ReturnsNoFrameTwice run step.0.seat step.0.action step.1 → BreaksPromise (run ++ step ∷ []) → MiscountsReferences run step
miscounts before limits returns breaks = record { before = before; limits = limits; returns = returns; breaks = breaks }

-- ---- given
pub free_breaks : MiscountsReferences kept_run (cpu_makes 2 (Get 1) Held)
unfolding sum_to
free_breaks = miscounts kept_run_is_legal tt refl (λ shown promise. let some : 1 ≤ 0 = (promise.references 15).1 in omega (arith, some))

pub returned_breaks : MiscountsReferences life_of_a_frame (cpu_makes 2 (Get 0) Held)
unfolding sum_to
returned_breaks = miscounts life_is_legal tt refl (λ shown promise. let some : 1 ≤ 0 = (promise.references 29).1 in omega (arith, some))

pub unreferred_breaks : MiscountsReferences never_referred (cpu_makes 2 (Get 0) Held)
unfolding sum_to
unreferred_breaks = miscounts never_is_legal tt refl (λ shown promise. let some : 1 ≤ 0 = (promise.references 4).1 in omega (arith, some))

pub nobody_breaks : MiscountsReferences kept_run (cpu_makes 3 (Get 0) Held)
unfolding sum_to
nobody_breaks = miscounts kept_run_is_legal tt refl (λ shown promise. true≢false (ap (λ n. n == 1) (promise.references 15).3))

pub past_255_breaks : MiscountsReferences referred_fully (cpu_makes 2 (Get 0) Held)
unfolding sum_to
past_255_breaks = miscounts fully_is_legal tt refl (λ shown promise. let few : 255 < 255 = (promise.references 6).2 in omega (arith, few))

pub in_no_unit_breaks : BreaksPromise given_in_no_unit
in_no_unit_breaks shown promise = false≢true (promise.references 1).0

pub zero_breaks : MiscountsReferences kept_run (cpu_makes 2 (Get 0) Zero)
unfolding sum_to
zero_breaks = miscounts kept_run_is_legal tt tt (λ shown promise. true≢false (ap (λ n. n == 1) (promise.references 15)))

pub full_breaks : MiscountsReferences kept_run (cpu_makes 2 (Get 0) Full)
unfolding sum_to
full_breaks = miscounts kept_run_is_legal tt tt (λ shown promise. true≢false (ap (λ n. n == 1) (promise.references 15)))

-- ---- dropped
pub anothers_breaks : MiscountsReferences kept_run (cpu_makes 2 (Put 0) (Left 1))
anothers_breaks = miscounts kept_run_is_legal tt tt (λ shown promise. let some : 1 ≤ 0 = (promise.references 15).0 in omega (arith, some))

pub too_many_left_breaks : MiscountsReferences referred_twice (cpu_makes 2 (Put 0) (Left 2))
unfolding sum_to
too_many_left_breaks = miscounts twice_is_legal tt tt (λ shown promise. true≢false (ap (λ n. n == 1) (promise.references 17).1))

pub left_none_breaks : MiscountsReferences referred_by_one (cpu_makes 2 (Put 0) (Left 0))
left_none_breaks = miscounts (beginnings_are_legal small_zone life_of_a_frame life_is_legal 18) tt tt (λ shown promise. let some : 1 ≤ 0 = (promise.references 18).2 in omega (arith, some))

pub last_of_none_breaks : MiscountsReferences kept_run (cpu_makes 2 (Put 1) Last)
last_of_none_breaks = miscounts kept_run_is_legal tt refl (λ shown promise. let some : 1 ≤ 0 = (promise.references 15).0 in omega (arith, some))

pub last_of_two_breaks : MiscountsReferences referred_twice (cpu_makes 2 (Put 0) Last)
unfolding sum_to
last_of_two_breaks = miscounts twice_is_legal tt refl (λ shown promise. true≢false (ap (λ n. n == 1) (promise.references 17).1))

pub frozen_elsewhere_breaks : MiscountsReferences referred_twice (zone_makes (Freeze 0 1) Done)
unfolding sum_to
frozen_elsewhere_breaks = miscounts twice_is_legal tt refl (λ shown promise. true≢false (ap (λ n. n == 1) (promise.references 17).2))

pub frozen_too_many_breaks : MiscountsReferences referred_fully (zone_makes (Freeze 0 256) Done)
frozen_too_many_breaks = miscounts fully_is_legal tt refl (λ shown promise. true≢false (ap (λ n. n == 255) (promise.references 6).1))

pub frozen_none_breaks : MiscountsReferences never_referred (zone_makes (Freeze 0 0) Done)
frozen_none_breaks = miscounts never_is_legal tt refl (λ shown promise. let some : 1 ≤ 0 = (promise.references 4).0 in omega (arith, some))
