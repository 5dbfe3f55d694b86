use Rattle.std.proofs.Common.{true, false, subst, arith}
use Rattle.group_charge.specs.Charges.{AreCharges}
use Rattle.machine_texts.proofs.KeptPages.{kept_below}
use Rattle.machine_texts.proofs.stat.memory_stat.Goals as goal

pub overflow_cast-result : goal.overflow_cast-result
overflow_cast-result g c =
    let legal = subst AreCharges c.charges.ensures c.prove_charges.ensures.legal in
    let kept = kept_below g.N.BootName.table c.args.machine.now c.prove_consistent.ensures legal false c.args.group in
    omega (arith, kept, c.prove_usage.ensures, c.pages_below-inactive.ensures.pages)

pub overflow_cast-result-2 : goal.overflow_cast-result-2
overflow_cast-result-2 g c =
    let legal = subst AreCharges c.charges.ensures c.prove_charges.ensures.legal in
    let kept = kept_below g.N.BootName.table c.args.machine.now c.prove_consistent.ensures legal false c.args.group in
    omega (arith, kept, c.prove_usage.ensures, c.pages_below-active.ensures.pages)

pub overflow_cast-result-3 : goal.overflow_cast-result-3
overflow_cast-result-3 g c =
    let legal = subst AreCharges c.charges.ensures c.prove_charges.ensures.legal in
    let kept = kept_below g.N.BootName.table c.args.machine.now c.prove_consistent.ensures legal true c.args.group in
    omega (arith, kept, c.prove_usage.ensures, c.pages_below-inactive_dirty.ensures.pages, c.pages_below-active_dirty.ensures.pages)

pub returns-clause-charged : goal.returns-clause-charged
returns-clause-charged g c =
    let legal = subst AreCharges c.charges.ensures c.prove_charges.ensures.legal in
    let kept = kept_below g.N.BootName.table c.args.machine.now c.prove_consistent.ensures legal false c.args.group in
    omega (arith, kept, c.prove_usage.ensures, c.pages_below-inactive.ensures.pages, c.pages_below-active.ensures.pages)
