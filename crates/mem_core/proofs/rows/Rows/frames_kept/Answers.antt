-- The sizes of the subtree's groups add up to the frames that it keeps.
use Rattle.std.proofs.Common.{◌≡◌, ℕ, ◌+◌, length, ◌∙◌, ap, subst, arith}
use Rattle.std.specs.Prelude.{if◌then◌else◌}
use Rattle.std.specs.List.{slice_index_or}
use Rattle.group_tree.specs.Groups.{in_subtree, room_of}
use Rattle.step_rules.specs.State.{sum_to}
use Rattle.mem_core.specs.{state_in, IsTally, class_in, keeper_class}
use Rattle.mem_core.proofs.Adding.{sum_room}
use Rattle.mem_core.proofs.Tallying.{kept_by_class, sizes_few}
use Rattle.mem_core.proofs.rows.Rows.frames_kept.Goals as goal

pub kept_in_subtree-sum-requires-clause-few : goal.kept_in_subtree-sum-requires-clause-few
kept_in_subtree-sum-requires-clause-few c = λ k.
    let xs = c.args.self.now.phases in
    let few = sizes_few (length xs) (class_in keeper_class xs) c.kept-kept.result.now k c.kept-kept.ensures.sizes in
    omega (arith, few, c.kept-kept.ensures.few)

pub returns-clause-kept : goal.returns-clause-kept
returns-clause-kept c =
    let s = state_in c.args.self.now in
    let sizes = c.kept-kept.result.now in
    let all : c.loop-number.number ≡ room_of s.groups = omega (arith, c.room-number-end.ensures.room) in
    let tally : IsTally s.zone.frames (λ f. keeper_class (s.phases f)) sizes =
    subst (λ (n : ℕ). IsTally n (λ f. keeper_class (s.phases f)) sizes) c.requires.fits.phases c.kept-kept.ensures.sizes in
    c.loop-number.invariant.sum
    ∙ ap (λ n. sum_to n (λ h. if in_subtree s.groups c.args.group h then slice_index_or sizes (h + 1) 0 else 0)) all
    ∙ sum_room s.groups c.args.group (λ h. slice_index_or sizes (h + 1) 0) c.groups-groups.ensures.legal
    ∙ kept_by_class s.groups s.phases s.zone.frames c.args.group sizes tally c.kept-kept.ensures.number
