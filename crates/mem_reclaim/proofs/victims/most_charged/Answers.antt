use Rattle.group_charge.specs.Charges.{AreCharges, Ledger}
use Rattle.std.proofs.Common.{arith, rules, subst}
use Rattle.mem_reclaim.proofs.Choosing.{best_end}
use Rattle.mem_reclaim.proofs.victims.most_charged.Goals as goal

pub returns : goal.returns
returns g c =
    let charges : AreCharges c.args.machine.now.ledger = subst (λ (l : Ledger). AreCharges l) c.charges.ensures c.prove_charges.ensures.legal in
    best_end c.args.machine.now charges.groups c.args.group c.args.excluded.now c.loop-number.number c.loop-number.best c.loop-number.most c.loop-number.invariant
    (omega (arith, c.loop-number-test.false, c.room-number-end.ensures.groups))

pub loop-number-preserved : goal.loop-number-preserved
loop-number-preserved g c = search rules
