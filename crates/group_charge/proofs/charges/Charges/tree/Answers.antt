use Rattle.std.proofs.Common.{arith, subst}
use Rattle.group_tree.proofs.CallerLemmas.{root_there}
use Rattle.group_charge.specs.Charges.{AreCharges}
use Rattle.group_charge.proofs.ChargeLemmas.{root_usage}
use Rattle.group_charge.proofs.charges.Charges.tree.Goals as goal

pub returns-clause-root : goal.returns-clause-root
returns-clause-root c = root_there c.self.inside.tree c.self.invariant.charges.groups

pub returns-clause-total : goal.returns-clause-total
returns-clause-total c = root_usage c.args.self.now (subst AreCharges c.self.view_is c.self.invariant.charges)

pub returns-clause-fits : goal.returns-clause-fits
returns-clause-fits c =
    let facts = subst AreCharges c.self.view_is c.self.invariant.charges in
    omega (arith, root_usage c.args.self.now facts, facts.fits)
