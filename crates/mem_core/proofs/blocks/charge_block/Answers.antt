-- The goals of `charge_block`.
use Rattle.std.proofs.Common.{◌≡◌, ap, arith}
use Rattle.step_rules.specs.State.{State}
use Rattle.mem_core.specs.Rows.{state_in}
use Rattle.mem_core.proofs.Ranges.{length_free}
use Rattle.mem_core.proofs.blocks.charge_block.Goals as goal

pub set_unit-requires-clause-inside : goal.set_unit-requires-clause-inside
set_unit-requires-clause-inside c =
    let s = state_in c.args.rows.now in
    let len = length_free s.zone s.phases in
    let frames : c.set_pending.new.self.frames ≡ c.args.rows.now.frames = ap (λ (t : State). t.zone.frames) c.set_pending.ensures.state in
    omega (arith, c.requires.free.block.inside, len, frames)
