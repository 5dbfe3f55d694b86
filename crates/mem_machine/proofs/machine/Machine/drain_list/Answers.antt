use Rattle.std.proofs.Common.{rules}
use Rattle.mem_machine.proofs.Many.{taken_start, taken_more, taken_end, taken_front, taken_whole}
use Rattle.mem_machine.proofs.machine.Machine.drain_list.Goals as goal

pub returns-then-not-unlist_one : goal.returns-then-not-unlist_one
returns-then-not-unlist_one g c = record {
  at_most = search rules;
  listed = (taken_front _ _ _ _ _ _ (taken_end _ _ _ _ _ _ _ _ c.loop-taken.invariant c.if-not-unlist_one.ensures.takes).0).listed;
  takes = (taken_front _ _ _ _ _ _ (taken_end _ _ _ _ _ _ _ _ c.loop-taken.invariant c.if-not-unlist_one.ensures.takes).0).takes;
  fewer_only_at_the_end = λ less. (taken_end _ _ _ _ _ _ _ _ c.loop-taken.invariant c.if-not-unlist_one.ensures.takes).1;
  visit = search rules;
  steps = (taken_front _ _ _ _ _ _ (taken_end _ _ _ _ _ _ _ _ c.loop-taken.invariant c.if-not-unlist_one.ensures.takes).0).steps;
}

pub loop-taken-preserved : goal.loop-taken-preserved
loop-taken-preserved g c =
    taken_more _ _ _ _ _ _ _ _ c.loop-taken.invariant c.if-not-unlist_one.ensures.takes c.unlist_one.ensures.visit

pub returns : goal.returns
returns g c =
    let all = taken_whole _ _ _ _ _ _ _ c.loop-taken.invariant c.loop-taken.auto.taken-end c.loop-taken-test.false in
    record { at_most = search rules; listed = all.listed; takes = all.takes; fewer_only_at_the_end = search rules; visit = search rules; steps = all.steps }

pub loop-taken-init : goal.loop-taken-init
loop-taken-init g c = taken_start _ _ _ c.requires
