use Rattle.std.proofs.Common.{sym, ◌∙◌}
use Rattle.mem_reclaim.proofs.Grown.{held_after}
use Rattle.mem_reclaim.proofs.Passing.{low_broken, low_holds}
use Rattle.mem_reclaim.proofs.passes.scan_and_note.Goals as goal

pub note_event-requires-clause-held : goal.note_event-requires-clause-held
note_event-requires-clause-held g c =
    let first = c.scan_both-freed.ensures.passes in
    held_after g.N.BootName.table c.args.machine.now first.steps c.scan_both-freed.new.machine first.moves.runs c.requires.held

pub returns-then-is_low_event : goal.returns-then-is_low_event
returns-then-is_low_event g c =
    let t = g.N.BootName.table in
    let e = c.scan_both-freed.ensures in
    let x = c.scan_both-freed.new.machine in
    let n = c.note_event.ensures in
    let p = c.args.protection in
    let gives =
    low_broken t p.min p.low c.args.usage c.args.group c.args.want c.scan_both-freed.result c.args.machine.now x c.note_event.new.self c.note_detail.new.self e.passes
    (held_after t c.args.machine.now e.passes.steps x e.passes.moves.runs c.requires.held) n.machine n.steps n.visit c.note_detail.ensures
    (sym c.is_low_event.ensures ∙ c.if-is_low_event.true) e.keeps e.usage e.leaves e.missed in
    record { passes = gives.passes; keeps = gives.keeps; usage = gives.usage; few = e.few; leaves = gives.leaves; missed = gives.missed }

pub returns-else-is_low_event-clause-passes : goal.returns-else-is_low_event-clause-passes
returns-else-is_low_event-clause-passes g c =
    let p = c.args.protection in
    low_holds g.N.BootName.table p.min p.low c.args.usage c.args.group c.args.want c.scan_both-freed.result c.args.machine.now c.scan_both-freed.new.machine
    c.scan_both-freed.ensures.passes (sym c.is_low_event.ensures ∙ c.if-is_low_event.false)
