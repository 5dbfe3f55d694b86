use Rattle.mem_reclaim.specs.{KillsGroups, alive_in_subtree}
use Rattle.mem_reclaim.proofs.KillSets.{KilledSo, subtree_killed}
use Rattle.mem_reclaim.proofs.Grown.{held_after, held_noted}
use Rattle.mem_reclaim.proofs.kills.kill_subtree.Goals as goal

pub kill_below-requires-clause-held : goal.kill_below-requires-clause-held
kill_below-requires-clause-held g c = held_noted g.N.BootName.table c.args.machine.now c.note_subtree.new.machine _ c.note_subtree.ensures c.requires.held

pub note_group_kill-requires-clause-held : goal.note_group_kill-requires-clause-held
note_group_kill-requires-clause-held g c =
    let t = g.N.BootName.table in
    let told = c.note_subtree.new.machine in
    let kills = c.kill_below.ensures.kills in
    held_after t told kills.steps c.kill_below.new.machine kills.runs (held_noted t c.args.machine.now told _ c.note_subtree.ensures c.requires.held)

pub returns : goal.returns
returns g c =
    let t = g.N.BootName.table in
    let e = c.kill_below.ensures in
    let below : KilledSo t (alive_in_subtree c.note_subtree.new.machine c.args.killed_root) (KillsGroups t c.args.limited
    (alive_in_subtree c.note_subtree.new.machine c.args.killed_root))
    c.note_subtree.new.machine c.kill_below.new.machine =
    record { kills = e.kills; marked = e.marked; drained = e.drained; stocks = e.stocks; none_kept = e.none_kept; keeps = e.keeps } in
    let so = subtree_killed t c.args.limited c.args.killed_root c.args.machine.now c.note_subtree.new.machine c.kill_below.new.machine
    c.note_group_kill.new.self
    c.note_subtree.ensures below c.note_group_kill.ensures.machine c.note_group_kill.ensures.usage c.note_group_kill.ensures.steps
    c.note_group_kill.ensures.visit c.requires.held in
    record { kills = so.kills; marked = so.marked; drained = so.drained; stocks = so.stocks; none_kept = so.none_kept; keeps = so.keeps }
