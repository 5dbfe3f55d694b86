use Rattle.std.proofs.Common.{◌≡◌, ◌^◌, false, [], inl, refl, sym, ◌∙◌, arith}
use Rattle.mem_machine.specs.Machines.{is_killed}
use Rattle.mem_alloc.proofs.Taking.{decides_drained}
use Rattle.mem_machine.proofs.Followed.{makes_none}
use Rattle.mem_alloc.proofs.blocks.alloc_block.Goals as goal

pub charge_block-requires-clause-may_charge : goal.charge_block-requires-clause-may_charge
charge_block-requires-clause-may_charge g c =
    let few = c.prove_order.ensures in
    record {
      there = c.requires.there;
      alive = sym c.is_killed.ensures ∙ c.if-is_killed.false;
      fits = c.prove_room.ensures.room (2 ^ c.args.order) (omega (arith, few));
    }

pub returns-in-Err-NoFrames-clause-allocates : goal.returns-in-Err-NoFrames-clause-allocates
returns-in-Err-NoFrames-clause-allocates g c =
    let alive : is_killed c.args.machine.now.killed c.args.group ≡ false = sym c.is_killed.ensures ∙ c.if-is_killed.false in
    decides_drained g.N.BootName.table c.args.group c.args.order c.args.machine.now c.args.cpu.now alive c.take_after_drain.result
    c.in-Err-NoFrames.field-0 c.charge_block.new.machine c.take_after_drain.new.machine c.charge_block.new.cpu c.take_after_drain.new.cpu
    c.in-Err-NoFrames.field-0-is c.in-Err-NoFrames.ensures.cpu c.in-Err-NoFrames.ensures.charges c.take_after_drain.ensures.takes

pub returns-then-is_killed-clause-allocates : goal.returns-then-is_killed-clause-allocates
returns-then-is_killed-clause-allocates g c = record {
  steps = [];
  does = inl (record { is = sym c.is_killed.ensures ∙ c.if-is_killed.true; does = record { machine = refl; cpu = refl; steps_are = refl } });
  makes = makes_none g.N.BootName.table c.args.machine.now;
}
