use Rattle.std.proofs.Common.{◌∙◌}
use Rattle.mem_machine.proofs.First.{empty_none, empty_pushed}
use Rattle.mem_machine.proofs.start.empty_lists.Goals as goal

pub loop-owner-init : goal.loop-owner-init
loop-owner-init c = record { empty = empty_none _ c.in_ok-lists.ensures.items; room = c.in_ok-lists.ensures.exact }

pub loop-owner-preserved : goal.loop-owner-preserved
loop-owner-preserved c =
    let so_far = c.loop-owner.invariant in
    record {
      empty = empty_pushed _ _ _ c.new.result so_far.empty c.new.ensures.owner c.new.ensures.linked c.push_reserved.ensures.items;
      room = c.push_reserved.ensures.capacity ∙ so_far.room;
    }
