use Rattle.std.proofs.Common.{rules}
use Rattle.mem_machine.proofs.Draining.{charged_there}
use Rattle.mem_machine.proofs.Freeing.{power_some}
use Rattle.mem_machine.proofs.Noted.{legal_step}
use Rattle.mem_machine.proofs.freed.return_unit.Goals as goal

pub uncharge-requires-clause-there : goal.uncharge-requires-clause-there
uncharge-requires-clause-there g c =
    charged_there c.args.charges.now c.args.unit.group c.prove_charges.ensures.legal (power_some c.args.unit.order _ c.requires.charged)

pub returns-clause-charges : goal.returns-clause-charges
returns-clause-charges g c = search rules

pub returns-clause-usage : goal.returns-clause-usage
returns-clause-usage g c = search rules

pub make_step-requires-clause-legal : goal.make_step-requires-clause-legal
make_step-requires-clause-legal g c = legal_step _ _ _ _ c.requires.legal tt (search rules)

pub returns-clause-notes : goal.returns-clause-notes
returns-clause-notes g c = c.make_step.ensures.notes _ _ (search rules)
