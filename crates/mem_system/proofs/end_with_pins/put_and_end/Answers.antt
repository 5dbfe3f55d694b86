use Rattle.std.proofs.Common.{◌≡◌, ◌∙◌, List, ap, arith, length, subst, sym}
use Rattle.mem_system.specs.{CpuInRun, parts_of, pins_of_all, EachPuts}
use Rattle.mem_system.proofs.Closing.{written_back}
use Rattle.mem_system.proofs.Putting.{puts_and_ends}
use Rattle.mem_system.proofs.end_with_pins.put_and_end.Goals as goal

pub unreachable-requires : goal.unreachable-requires
unreachable-requires g c =
    let first = c.deref_mut.ensures.value in
    let long = c.put_all_pins.auto.cpus ∙ ap length first in
    let same = written_back c.args.cpus.len c.put_all_pins.new.cpus c.args.cpus.items long (sym c.deref_mut.ensures.len ∙ ap length first) in
    let none : c.in-Err.field-0.pins ≡ 0 = c.in-Err.ensures.pinned.pins ∙ ap (λ (l : List CpuInRun). pins_of_all (parts_of l)) same ∙ c.put_all_pins.ensures.none in
    let some = c.in-Err.ensures.pinned.some_pin in
    omega (arith, none, some)

pub returns : goal.returns
returns g c =
    let quiet = c.prove_quiet.ensures in
    let first = c.deref_mut.ensures.value in
    let long = c.put_all_pins.auto.cpus ∙ ap length first in
    let same = written_back c.args.cpus.len c.put_all_pins.new.cpus c.args.cpus.items long (sym c.deref_mut.ensures.len ∙ ap length first) in
    let held = c.count_pins-held.ensures ∙ ap (λ (l : List CpuInRun). pins_of_all (parts_of l)) c.deref.ensures.value in
    puts_and_ends _ _ _ _ _ (record { quiet = quiet.quiet; consistent = quiet.consistent; charges = quiet.charges }) held
    (subst (EachPuts c.args.cpus.items) (sym same) (subst (λ (l : List CpuInRun). EachPuts l c.put_all_pins.new.cpus) first c.put_all_pins.ensures.puts))
    c.in-Ok.ensures.ends
