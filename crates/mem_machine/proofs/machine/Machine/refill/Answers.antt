use Rattle.std.proofs.Common.{rules}
use Rattle.mem_machine.proofs.Many.{lent_more, lent_end}
use Rattle.mem_machine.proofs.machine.Machine.refill.Goals as goal

pub returns-then-not-lend_one : goal.returns-then-not-lend_one
returns-then-not-lend_one g c = record {
  at_most = search rules;
  refills = (lent_end _ _ _ _ _ _ _ _ c.loop-lent.invariant c.if-not-lend_one.ensures.lends).0.refills;
  fewer_only_at_the_end = λ less. (lent_end _ _ _ _ _ _ _ _ c.loop-lent.invariant c.if-not-lend_one.ensures.lends).1;
  visit = search rules;
}

pub loop-lent-preserved : goal.loop-lent-preserved
loop-lent-preserved g c = lent_more _ _ _ _ _ _ _ _ c.loop-lent.invariant c.if-not-lend_one.ensures.lends c.lend_one.ensures.visit
