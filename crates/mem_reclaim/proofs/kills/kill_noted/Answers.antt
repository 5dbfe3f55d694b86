use Rattle.mem_reclaim.proofs.KillSets.{one_killed}
use Rattle.mem_reclaim.proofs.kills.kill_noted.Goals as goal

pub returns : goal.returns
returns g c =
    let e = c.kill_group.ensures in
    let so = one_killed g.N.BootName.table c.args.limited c.args.group c.args.machine.now c.kill_group.new.machine c.note_killed.new.machine
    c.count_before_kill-had.result c.count_before_kill-had.ensures e.kills e.marked e.drained e.stocks e.none_kept e.keeps c.note_killed.ensures in
    record { kills = so.kills; marked = so.marked; drained = so.drained; stocks = so.stocks; none_kept = so.none_kept; keeps = so.keeps }
