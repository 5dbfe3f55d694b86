-- What breaks the promise, and the shown state that keeps it.
use Rattle.std.proofs.Common.{◌≡◌, ◌≤◌, ◌==◌, Some, List, refl, sym, ◌∙◌, ap, subst, arith, inl, inr}
use Rattle.std.proofs.lemmas.Bool.{true≢false, false≢true}
use Rattle.group_tree.specs.Path.{names_of}
use Rattle.group_tree.specs.Groups.{has_group, group_at, path_of, in_subtree, with_limit}
use Rattle.group_tree.specs.declared.group.Group.{Group}
use Rattle.step_rules.specs.declared.step.FramePlace.{FramePlace}
use Rattle.step_rules.specs.declared.step.FramePlace.TheVariants.{Charged}
use Rattle.step_rules.specs.{HasOnce, small_zone, BreaksPromise, past_a_limit, granted_when_killed, returned_unused, returned_in_use}
use Rattle.step_rules.specs.{returned_in_no_unit, returned_again, credited_again, credited_in_use, consumed_nothing, consumed_in_a_unit}
use Rattle.step_rules.specs.{placed_on_a_tail, placed_smaller, placed_in_use, placed_ended, placed_for_nobody, given_after_the_last}
use Rattle.step_rules.specs.{put_after_the_last, frozen_after_the_last, unfrozen_in_no_unit, unfrozen_in_use}

-- ---- limits
pub past_a_limit_breaks : BreaksPromise past_a_limit
unfolding in_subtree path_of group_at names_of with_limit
past_a_limit_breaks shown promise = false≢true ((promise.limits 5).1 1 refl)

pub granted_when_killed_breaks : BreaksPromise granted_when_killed
granted_when_killed_breaks shown promise = true≢false (promise.limits 2).0

-- ---- returns
pub returned_unused_breaks : BreaksPromise returned_unused
returned_unused_breaks shown promise = elim (promise.returns 1).0 [ inl e ↦ false≢true e | inr e ↦ false≢true e ]

pub returned_in_use_breaks : BreaksPromise returned_in_use
returned_in_use_breaks shown promise = true≢false (ap (λ n. n == 2) ((promise.returns 3).2 0))

pub returned_in_no_unit_breaks : BreaksPromise returned_in_no_unit
returned_in_no_unit_breaks shown promise = false≢true (promise.returns 1).1

pub returned_again_breaks : BreaksPromise returned_again
returned_again_breaks shown promise = elim (promise.returns 4).0 [ inl e ↦ false≢true e | inr e ↦ false≢true e ]

pub credited_again_breaks : BreaksPromise credited_again
credited_again_breaks shown promise = true≢false (ap (λ n. n == 0) (promise.returns 8).0)

pub credited_in_use_breaks : BreaksPromise credited_in_use
credited_in_use_breaks shown promise = true≢false (ap (λ n. n == 1) ((promise.returns 8).1 2))

-- ---- a second use
pub consumed_nothing_breaks : BreaksPromise consumed_nothing
consumed_nothing_breaks shown promise = let few : 1 ≤ 0 = (promise.returns 0).0 in omega (arith, few)

pub consumed_in_a_unit_breaks : BreaksPromise consumed_in_a_unit
consumed_in_a_unit_breaks shown promise = (promise.returns 2).1.0 0 (0, 0, refl, record { from = omega arith; before = omega arith })

pub placed_on_a_tail_breaks : BreaksPromise placed_on_a_tail
placed_on_a_tail_breaks shown promise =
    ((promise.returns 1).1 1 (record { from = omega arith; before = omega arith })).0 0 (0, 1, refl, record { from = omega arith; before = omega arith })

pub placed_smaller_breaks : BreaksPromise placed_smaller
placed_smaller_breaks shown promise = true≢false (ap (λ n. n == 0) (promise.returns 0).0)

pub placed_in_use_breaks : BreaksPromise placed_in_use
placed_in_use_breaks shown promise =
    true≢false (ap (λ n. n == 1) (((promise.returns 1).1 0 (record { from = omega arith; before = omega arith })).1 2))

pub placed_ended_breaks : BreaksPromise placed_ended
placed_ended_breaks shown promise = true≢false ((promise.returns 1).1 0 (record { from = omega arith; before = omega arith })).2

pub placed_for_nobody_breaks : BreaksPromise placed_for_nobody
unfolding has_group group_at
placed_for_nobody_breaks shown promise =
    let one = promise.frames 0 (omega arith) in
    let kept : shown.keeper 0 ≡ Some 5 = (one.kept 5).1 (0, 0, refl, record { from = omega arith; before = omega arith }) in
    let once : HasOnce small_zone shown 0 (Charged 5) = subst (λ (p : FramePlace). HasOnce small_zone shown 0 p) (sym (one.only (Charged 5) kept)) one.once in
    false≢true (sym (ap (λ (groups : List Group). has_group groups 5) promise.groups) ∙ once.0)

-- ---- references after the last
pub given_after_the_last_breaks : BreaksPromise given_after_the_last
given_after_the_last_breaks shown promise = true≢false (promise.returns 1)

pub put_after_the_last_breaks : BreaksPromise put_after_the_last
put_after_the_last_breaks shown promise = true≢false (promise.returns 1)

pub frozen_after_the_last_breaks : BreaksPromise frozen_after_the_last
frozen_after_the_last_breaks shown promise = true≢false (promise.returns 1)

pub unfrozen_in_no_unit_breaks : BreaksPromise unfrozen_in_no_unit
unfrozen_in_no_unit_breaks shown promise = false≢true (promise.returns 0).0

pub unfrozen_in_use_breaks : BreaksPromise unfrozen_in_use
unfrozen_in_use_breaks shown promise = true≢false (ap (λ n. n == 1) ((promise.returns 2).1 0))
