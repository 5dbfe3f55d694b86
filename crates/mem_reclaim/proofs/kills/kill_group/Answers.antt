use Rattle.mem_reclaim.proofs.LettingGo.{all_killed}
use Rattle.mem_machine.specs.Steps.{drain_stocks_steps, kill_steps}
use Rattle.mem_reclaim.proofs.Grown.{held_after}
use Rattle.mem_reclaim.proofs.kills.kill_group.Goals as goal

pub drain_group_stocks-requires : goal.drain_group_stocks-requires
drain_group_stocks-requires g c = record {
  held = held_after g.N.BootName.table c.args.machine.now (kill_steps c.args.group) c.mark_killed.new.self c.mark_killed.ensures.steps c.requires.held;
}

pub release_units-requires : goal.release_units-requires
release_units-requires g c =
    let t = g.N.BootName.table in
    let marked = c.mark_killed.new.self in
    let drains = c.drain_group_stocks.ensures.drains in record {
      held = held_after t marked (drain_stocks_steps drains.drains) c.drain_group_stocks.new.self drains.steps
          (held_after t c.args.machine.now (kill_steps c.args.group) marked c.mark_killed.ensures.steps c.requires.held);
    }

pub release_units-requires-2 : goal.release_units-requires-2
release_units-requires-2 g c =
    let t = g.N.BootName.table in
    let marked = c.mark_killed.new.self in
    let drained = c.drain_group_stocks.new.self in
    let drains = c.drain_group_stocks.ensures.drains in
    let first = c.release_units.ensures.releases in record {
      held = held_after t drained first.steps c.release_units.new.machine first.runs (held_after t marked (drain_stocks_steps drains.drains) drained drains.steps
          (held_after t c.args.machine.now (kill_steps c.args.group) marked c.mark_killed.ensures.steps c.requires.held));
    }

pub returns : goal.returns
returns g c =
    let all = all_killed g.N.BootName.table c.args.group c.args.machine.now c.mark_killed.new.self c.drain_group_stocks.new.self
    c.release_units.new.machine c.release_units-2.new.machine c.mark_killed.ensures.machine c.mark_killed.ensures.usage c.mark_killed.ensures.steps c.mark_killed.ensures.visit c.requires.held
    c.drain_group_stocks.result c.drain_group_stocks.ensures.drains c.drain_group_stocks.ensures.drained c.drain_group_stocks.ensures.visit c.release_units.ensures.releases c.release_units.ensures.empty c.release_units.ensures.keeps
    c.release_units.ensures.stocks c.prove_consistent.ensures c.release_units-2.ensures.releases c.release_units-2.ensures.empty c.release_units-2.ensures.keeps
    c.release_units-2.ensures.stocks c.prove_consistent-2.ensures in
    record { kills = all.kills; marked = all.marked; drained = all.drained; stocks = all.stocks; none_kept = all.none_kept; keeps = all.keeps }
