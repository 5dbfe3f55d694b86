use Rattle.std.proofs.Common.{◌≡◌, ◌++◌, ◌+◌, ℕ, ◌≤◌, IfOk, append-nil, ap, arith, subst, sym, ◌∙◌}
use Rattle.std.proofs.lemmas.Option.{none-some}
use Rattle.std.specs.String.{string_bytes}
use Rattle.boot_words.specs.{LoadsReferences, own_past, zone_of_boot, KnownTable}
use Rattle.lru_lists.specs.Lists.{entry_after}
use Rattle.mem_machine.specs.{home_of, entries_in, listed}
use Rattle.machine_texts.specs.Units.{order_at, unit_text}
use Rattle.machine_texts.proofs.UnitLines.{is_met, joined, met_more, met_none}
use Rattle.machine_texts.proofs.units.write_list.Goals as goal

pub loop-seen-init : goal.loop-seen-init
loop-seen-init g c = met_none g.N.BootName.table c.args.group c.args.list c.args.machine.now c.oldest-next.result _ c.oldest-next.ensures (sym (append-nil (string_bytes c.args.text.now)))

pub unreachable-requires-in_default-frame : goal.unreachable-requires-in_default-frame
unreachable-requires-in_default-frame g c =
    let lt = (is_met g.N.BootName.table c.args.group c.args.list c.args.machine.now c.loop-seen._seen c.loop-seen.next c.loop-seen.machine _
    c.prove_consistent.ensures c.loop-seen.invariant c.in-Some.entry c.in-Some.is).inside in
    let le : c.args.tables.now.words.frames ≤ c.in-Some.entry.number = c.in_default-frame.ensures {u = tt} in
    let tie = ap (λ (x : KnownTable). x.frames) c.args.tables.now.words_are in
    omega (arith, lt, le, tie)

pub newer-next-requires-clause-home : goal.newer-next-requires-clause-home
newer-next-requires-clause-home g c =
    ap (home_of c.loop-seen.machine.links) c.in-Some-frame.ensures.0
    ∙ (is_met g.N.BootName.table c.args.group c.args.list c.args.machine.now c.loop-seen._seen c.loop-seen.next c.loop-seen.machine _
    c.prove_consistent.ensures c.loop-seen.invariant c.in-Some.entry c.in-Some.is).home

pub pins_on-pins-requires-clause-kept : goal.pins_on-pins-requires-clause-kept
pins_on-pins-requires-clause-kept g c none =
    let home = (is_met g.N.BootName.table c.args.group c.args.list c.args.machine.now c.loop-seen._seen c.loop-seen.next c.loop-seen.machine _
    c.prove_consistent.ensures c.loop-seen.invariant c.in-Some.entry c.in-Some.is).home in
    none-some _ (sym none ∙ ap (home_of c.loop-seen.machine.links) c.in-Some-frame.ensures.0 ∙ home)

pub loop-seen-preserved : goal.loop-seen-preserved
loop-seen-preserved g c =
    let now = c.loop-seen.machine in
    let at = c.in-Some-frame.ensures.0 in
    let pins = c.pins_on-pins.result in
    let line : (order : ℕ) → c.order_of-order.result ≡ order → IfOk c.write_unit-line.result (λ _. string_bytes c.write_unit-line.new.text
    ≡ string_bytes c.loop-seen.text ++ unit_text order (listed c.args.list c.in-Some.entry) pins) =
    λ order is. subst (λ (k : ℕ). IfOk c.write_unit-line.result (λ _. string_bytes c.write_unit-line.new.text
    ≡ string_bytes c.loop-seen.text ++ unit_text k (listed c.args.list c.in-Some.entry) pins)) is c.write_unit-line.ensures in
    met_more g.N.BootName.table c.args.group c.args.list c.args.machine.now c.loop-seen._seen c.loop-seen.next now _
    c.prove_consistent.ensures c.loop-seen.invariant c.in-Some.entry c.in-Some.is c.newer-next.result
    (c.newer-next.ensures ∙ ap (λ (x : ℕ). entry_after x (entries_in now c.args.group c.args.list)) at) pins c.pins_on-pins.ensures.most
    (subst (λ (x : ℕ). LoadsReferences (zone_of_boot g.N.BootName.table) (own_past now.run.past) x (pins + 1)) at c.pins_on-pins.ensures.pins)
    c.pins_on-pins.new.self c.pins_on-pins.ensures.machine _
    (λ text told. joined c.first_error-written.result c.loop-seen.written c.write_unit-line.result (string_bytes c.args.text.now)
    (string_bytes c.loop-seen.text)
    (string_bytes c.write_unit-line.new.text) text (unit_text (order_at now c.in-Some.entry.number) (listed c.args.list c.in-Some.entry) pins)
    c.first_error-written.ensures.first c.first_error-written.ensures.second told (line (order_at now c.in-Some.entry.number)
    (c.order_of-order.ensures ∙ ap (order_at now) at)))
