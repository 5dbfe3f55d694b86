-- The goals of `pin_count`.
use Rattle.std.proofs.Common.{◌∙◌}
use Rattle.mem_core.proofs.Pinning.{no_pins, pins_are}
use Rattle.mem_core.proofs.rows.Rows.pin_count.Goals as goal

pub returns-in-None-clause-pins : goal.returns-in-None-clause-pins
returns-in-None-clause-pins c = no_pins c.args.self.now c.args.seat c.in-None.ensures

pub returns-in-Some-clause-pins : goal.returns-in-Some-clause-pins
returns-in-Some-clause-pins c = c.sum.ensures.sum ∙ pins_are c.args.self.now c.args.seat c.in-Some.row.now c.requires.fits c.in-Some.ensures
