use Rattle.std.proofs.Common.{◌≤◌, sym, ap, ◌∙◌, arith, rules}
use Rattle.group_tree.proofs.CallerLemmas.{in_subtree-refl}
use Rattle.lru_lists.specs.Lists.{entry_of}
use Rattle.boot_words.specs.Tables.{KnownTable}
use Rattle.mem_machine.specs.Machines.{home_of}
use Rattle.mem_reclaim.proofs.Scanning.{scan_first, scan_here, scan_more, scan_done, scan_enough}
use Rattle.mem_reclaim.proofs.Grown.{held_after}
use Rattle.mem_reclaim.proofs.scan.scan.Goals as goal

pub loop-met-init : goal.loop-met-init
loop-met-init g c =
    scan_first g.N.BootName.table c.args.machine.now c.prove_consistent.ensures c.args.spares_marked c.args.group
    c.args.list
    c.args.want c.oldest-next.result c.oldest-next.ensures

pub returns-then-want-freed-clause-scans : goal.returns-then-want-freed-clause-scans
returns-then-want-freed-clause-scans g c =
    (scan_enough g.N.BootName.table c.args.spares_marked c.args.group c.args.list c.args.want c.args.machine.now c.loop-met._met c.loop-met.freed
    c.loop-met.next
    c.loop-met.machine c.loop-met.invariant c.if-want-freed.true).scans

pub unreachable-requires-in_default-frame : goal.unreachable-requires-in_default-frame
unreachable-requires-in_default-frame g c =
    let h = scan_here g.N.BootName.table c.args.spares_marked c.args.group c.args.list c.args.want c.args.machine.now
    c.loop-met._met c.loop-met.freed c.loop-met.next c.loop-met.machine c.prove_consistent-in-loop-met.ensures c.loop-met.invariant c.list_len-units.result
    c.list_len-units.ensures c.loop-met-test.true c.in-Some.unit c.in-Some.is in
    let lt = h.inside in
    let le : c.args.tables.now.words.frames ≤ c.in-Some.unit.number = c.in_default-frame.ensures {u = tt} in
    let tie = ap (λ (x : KnownTable). x.frames) c.args.tables.now.words_are in
    omega (arith, lt, le, tie)

pub newer-next-requires-clause-home : goal.newer-next-requires-clause-home
newer-next-requires-clause-home g c =
    let h = scan_here g.N.BootName.table c.args.spares_marked c.args.group c.args.list c.args.want c.args.machine.now
    c.loop-met._met c.loop-met.freed c.loop-met.next c.loop-met.machine c.prove_consistent-in-loop-met.ensures c.loop-met.invariant c.list_len-units.result
    c.list_len-units.ensures c.loop-met-test.true c.in-Some.unit c.in-Some.is in
    ap (home_of c.loop-met.machine.links) c.in-Some-frame.ensures.0 ∙ h.home

pub try_reclaim-requires-clause-unit : goal.try_reclaim-requires-clause-unit
try_reclaim-requires-clause-unit g c =
    let h = scan_here g.N.BootName.table c.args.spares_marked c.args.group c.args.list c.args.want c.args.machine.now
    c.loop-met._met c.loop-met.freed c.loop-met.next c.loop-met.machine c.prove_consistent-in-loop-met.ensures c.loop-met.invariant c.list_len-units.result
    c.list_len-units.ensures c.loop-met-test.true c.in-Some.unit c.in-Some.is in
    h.read ∙ ap (entry_of c.loop-met.machine.links) (sym c.in-Some-frame.ensures.0)

pub try_reclaim-requires-clause-home : goal.try_reclaim-requires-clause-home
try_reclaim-requires-clause-home g c =
    let h = scan_here g.N.BootName.table c.args.spares_marked c.args.group c.args.list c.args.want c.args.machine.now
    c.loop-met._met c.loop-met.freed c.loop-met.next c.loop-met.machine c.prove_consistent-in-loop-met.ensures c.loop-met.invariant c.list_len-units.result
    c.list_len-units.ensures c.loop-met-test.true c.in-Some.unit c.in-Some.is in
    ap (home_of c.loop-met.machine.links) c.in-Some-frame.ensures.0 ∙ h.home

pub try_reclaim-requires-clause-held : goal.try_reclaim-requires-clause-held
try_reclaim-requires-clause-held g c =
    let so = c.loop-met.invariant.so_far in
    held_after g.N.BootName.table c.args.machine.now so.steps c.loop-met.machine so.moves.runs c.requires.held

pub loop-met-preserved : goal.loop-met-preserved
loop-met-preserved g c =
    let small = c.try_reclaim.ensures.few in
    let e = c.from-freed.ensures in
    rw e
    (scan_more g.N.BootName.table c.args.spares_marked c.args.group c.args.list c.args.want c.args.machine.now
    c.loop-met._met c.loop-met.freed c.loop-met.next c.loop-met.machine c.prove_consistent-in-loop-met.ensures c.loop-met.invariant c.list_len-units.result
    c.list_len-units.ensures c.loop-met-test.true c.in-Some.unit c.in-Some.is c.try_reclaim.result c.try_reclaim.new.machine c.requires.inactive c.if-want-freed.false
    small c.try_reclaim.ensures.attempts c.try_reclaim.ensures.keeps c.try_reclaim.ensures.usage c.newer-next.result c.in-Some-frame.frame c.in-Some-frame.ensures.0
    c.newer-next.ensures)

pub returns : goal.returns
returns g c =
    let all = scan_done g.N.BootName.table c.args.spares_marked c.args.group c.args.list c.args.want c.args.machine.now c.loop-met._met c.loop-met.freed
    c.loop-met.next
    c.loop-met.machine c.loop-met.invariant c.list_len-units.result c.list_len-units.ensures c.loop-met-test.false in
    record { scans = all.scans; keeps = search rules; usage = search rules; few = search rules; leaves = search rules; missed = all.missed }

pub returns-then-want-freed-clause-few : goal.returns-then-want-freed-clause-few
returns-then-want-freed-clause-few g c = search rules

pub returns-then-want-freed-clause-missed : goal.returns-then-want-freed-clause-missed
returns-then-want-freed-clause-missed g c = search rules

pub overflow_add-freed : goal.overflow_add-freed
overflow_add-freed g c =
    let usage = c.loop-met.invariant.usage c.args.group (in_subtree-refl c.args.machine.now.ledger.groups c.args.group c.requires.there) in
    let fits = c.prove_usage.ensures in
    let more = c.from-freed.ensures in
    let small = c.try_reclaim.ensures.few in
    omega (arith, usage, fits, more, small)
