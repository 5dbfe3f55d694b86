-- The lower part of the smallest area is a free block, and without an area there is none.
use Rattle.step_rules.specs.State.{free_in}
use Rattle.mem_core.specs.Rows.{state_in}
use Rattle.mem_core.proofs.FreeBlocks.{lower_part_is_free, none_is_free}
use Rattle.mem_core.proofs.blocks.free_block.Goals as goal

pub returns-in_err-area-clause-none : goal.returns-in_err-area-clause-none
returns-in_err-area-clause-none c =
    let s = state_in c.args.rows.now in
    rw c.from_residual.ensures (none_is_free (free_in s.zone s.phases) c.args.areas.now.blocks c.args.order c.requires.areas c.in_err-area.ensures)

pub returns-clause-some : goal.returns-clause-some
returns-clause-some c =
    let s = state_in c.args.rows.now in
    let smallest = c.in_ok-area.ensures in
    let area = c.requires.areas.each c.in_ok-area.area smallest.there in
    lower_part_is_free (free_in s.zone s.phases) c.in_ok-area.area c.args.order area.is_free smallest.sufficient
