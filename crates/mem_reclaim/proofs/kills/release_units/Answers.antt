use Rattle.std.proofs.Common.{◌≤◌, length, ap, sym, ◌∙◌, arith}
use Rattle.std.proofs.lemmas.Option.{none-some}
use Rattle.boot_words.specs.Tables.{KnownTable}
use Rattle.mem_machine.specs.{home_of, entries_in}
use Rattle.mem_reclaim.proofs.LettingGo.{let_go_done, let_go_empty, let_go_first, let_go_more, oldest_is, one_is_left}
use Rattle.mem_reclaim.proofs.Grown.{held_after}
use Rattle.mem_reclaim.proofs.kills.release_units.Goals as goal

pub loop-unit-init : goal.loop-unit-init
loop-unit-init g c = let_go_first g.N.BootName.table c.args.group c.args.list c.args.machine.now

pub unreachable-requires : goal.unreachable-requires
unreachable-requires g c =
    let left = c.loop-unit.invariant.left in
    one_is_left _ _ c.oldest.ensures c.in_default.is (omega (arith, left, c.loop-unit-test.true, c.list_len-unit-end.ensures))

pub unreachable-requires-in_default-frame : goal.unreachable-requires-in_default-frame
unreachable-requires-in_default-frame g c =
    let o = oldest_is g.N.BootName.table c.args.group c.args.list c.loop-unit.machine c.prove_consistent.ensures
    c.in-Some.unit c.oldest.result c.oldest.ensures c.in-Some.is in
    let lt = o.inside in
    let le : c.args.tables.now.words.frames ≤ c.in-Some.unit.number = c.in_default-frame.ensures {u = tt} in
    let tie = ap (λ (x : KnownTable). x.frames) c.args.tables.now.words_are in
    omega (arith, lt, le, tie)

pub put_zone_reference-requires-clause-kept : goal.put_zone_reference-requires-clause-kept
put_zone_reference-requires-clause-kept g c none =
    let o = oldest_is g.N.BootName.table c.args.group c.args.list c.loop-unit.machine c.prove_consistent.ensures
    c.in-Some.unit c.oldest.result c.oldest.ensures c.in-Some.is in
    none-some _ (sym none ∙ ap (home_of c.loop-unit.machine.links) c.in-Some-frame.ensures.0 ∙ o.home)

pub put_zone_reference-requires-clause-held : goal.put_zone_reference-requires-clause-held
put_zone_reference-requires-clause-held g c =
    let so = c.loop-unit.invariant in
    held_after g.N.BootName.table c.args.machine.now so.steps c.loop-unit.machine so.runs c.requires.held

pub loop-unit-preserved : goal.loop-unit-preserved
loop-unit-preserved g c =
    let o = oldest_is g.N.BootName.table c.args.group c.args.list c.loop-unit.machine c.prove_consistent.ensures
    c.in-Some.unit c.oldest.result c.oldest.ensures c.in-Some.is in
    let_go_more g.N.BootName.table c.args.group c.args.list c.args.machine.now c.loop-unit._unit c.loop-unit.machine c.loop-unit.invariant c.in-Some.unit o
    c.in-Some-frame.frame c.in-Some-frame.ensures.0 c.put_zone_reference.result c.put_zone_reference.new.self c.put_zone_reference.ensures.releases c.put_zone_reference.ensures.visit c.put_zone_reference.ensures.steps
    c.requires.held

pub returns-clause-releases : goal.returns-clause-releases
returns-clause-releases g c =
    let counted = c.list_len-unit-end.ensures in
    let all = c.loop-unit-test.false in
    let done : length (entries_in c.args.machine.now c.args.group c.args.list) ≤ c.loop-unit._unit = omega (arith, counted, all) in
    let_go_done g.N.BootName.table c.args.group c.args.list c.args.machine.now c.loop-unit._unit c.loop-unit.machine c.loop-unit.invariant done

pub returns-clause-empty : goal.returns-clause-empty
returns-clause-empty g c =
    let counted = c.list_len-unit-end.ensures in
    let all = c.loop-unit-test.false in
    let done : length (entries_in c.args.machine.now c.args.group c.args.list) ≤ c.loop-unit._unit = omega (arith, counted, all) in
    let_go_empty g.N.BootName.table c.args.group c.args.list c.args.machine.now c.loop-unit._unit c.loop-unit.machine c.loop-unit.invariant done
