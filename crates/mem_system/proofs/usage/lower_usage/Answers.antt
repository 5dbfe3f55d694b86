use Rattle.std.proofs.Common.{List, ap, ◌∙◌}
use Rattle.group_tree.specs.declared.group.Group.{Group}
use Rattle.group_tree.specs.Groups.{has_group}
use Rattle.mem_machine.specs.{drain_stocks_steps, of_subtree}
use Rattle.mem_reclaim.proofs.Grown.{held_after}
use Rattle.mem_reclaim.proofs.LettingGo.{drains_leave}
use Rattle.mem_system.proofs.Keeping.{lowered_by}
use Rattle.mem_system.proofs.usage.lower_usage.Goals as goal

pub reclaim_to_limit-requires : goal.reclaim_to_limit-requires
reclaim_to_limit-requires g c =
    let t = g.N.BootName.table in
    let sub = c.drain_stocks.ensures.drains in
    let same = (drains_leave t (of_subtree c.args.group) t.cpus c.args.machine.now c.drain_stocks.new.self sub.drains sub.all).groups in
    record {
      there = ap (λ (x : List Group). has_group x c.args.group) same ∙ c.requires.there;
      held = held_after t c.args.machine.now (drain_stocks_steps sub.drains) c.drain_stocks.new.self sub.steps c.requires.held;
    }

pub returns-clause-lowers : goal.returns-clause-lowers
returns-clause-lowers g c =
    lowered_by g.N.BootName.table c.args.group c.args.limit c.drain_stocks.result c.reclaim_to_limit.result
    c.args.machine.now
    c.drain_stocks.new.self c.reclaim_to_limit.new.machine c.drain_stocks.ensures.drains c.drain_stocks.ensures.drained
    c.reclaim_to_limit.ensures.rounds c.reclaim_to_limit.ensures.missed c.reclaim_to_limit.ensures.keeps

pub returns-clause-visit : goal.returns-clause-visit
returns-clause-visit g c = λ y v. c.reclaim_to_limit.ensures.keeps.visit y (c.drain_stocks.ensures.visit y v)
