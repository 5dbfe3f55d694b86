-- The pages pending for the subtree's groups are all below the tree's room.
use Rattle.std.proofs.Common.{◌≡◌, ◌∙◌, ap, arith}
use Rattle.std.specs.Prelude.{if◌then◌else◌}
use Rattle.group_tree.specs.Groups.{in_subtree, room_of}
use Rattle.step_rules.specs.State.{sum_to}
use Rattle.mem_core.specs.Rows.{state_in}
use Rattle.mem_core.proofs.Adding.{sum_room}
use Rattle.mem_core.proofs.rows.Rows.pages_pending.Goals as goal

pub returns-clause-pages : goal.returns-clause-pages
returns-clause-pages c =
    let s = state_in c.args.self.now in
    let all : c.loop-number.number ≡ room_of s.groups = omega (arith, c.room-number-end.ensures.room) in
    c.loop-number.invariant.sum
    ∙ ap (λ n. sum_to n (λ h. if in_subtree s.groups c.args.group h then s.pending h else 0)) all
    ∙ sum_room s.groups c.args.group s.pending c.groups-groups.ensures.legal
