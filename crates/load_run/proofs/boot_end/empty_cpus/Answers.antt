use Rattle.std.proofs.Common.{◌≡◌, ◌∙◌, List, arith, ap, length, subst, sym}
use Rattle.mem_system.specs.{CpuInRun, parts_of, ForEachCpu, MakesLastVisits, pins_of_all, KnownLocked}
use Rattle.mem_system.proofs.Closing.{turn_long, written_back}
use Rattle.script_replay.specs.Lines.{system_state}
use Rattle.load_run.specs.Ending.{PutsAllPins}
use Rattle.load_run.proofs.Putting.{leaves_free, leaves_nothing, none_pinned}
use Rattle.load_run.proofs.boot_end.empty_cpus.Goals as goal

pub unreachable-requires : goal.unreachable-requires
unreachable-requires g c =
    let first = c.deref_mut.ensures.value in
    let long = turn_long PutsAllPins _ _ _ _ c.put_all_pins.ensures.puts ∙ ap length first in
    let same = written_back c.in-Err.pinned.cpus.len c.put_all_pins.new.cpus c.in-Err.pinned.cpus.items long (sym c.deref_mut.ensures.len ∙ ap length first) in
    let none : c.in-Err-make_last_visits.field-0.pins ≡ 0 =
    c.in-Err-make_last_visits.ensures.pinned.pins ∙ ap (λ (l : List CpuInRun). pins_of_all (parts_of l)) same ∙ none_pinned _ _ _ _ c.put_all_pins.ensures.puts in
    let some = c.in-Err-make_last_visits.ensures.pinned.some_pin in
    omega arith

pub returns-in-Ok : goal.returns-in-Ok
returns-in-Ok g c = record {
  leaves = leaves_free g.N.BootName.table (system_state c.args.locked c.args.cpus.items) c.in-Ok.emptied c.in-Ok.ensures.visits;
}

pub returns-in-Ok-make_last_visits : goal.returns-in-Ok-make_last_visits
returns-in-Ok-make_last_visits g c =
    let t = g.N.BootName.table in
    let same = c.in-Err.ensures.pinned in
    let put = c.put_all_pins.ensures in
    let now = c.put_all_pins.new in
    let first = c.deref_mut.ensures.value in
    let long = turn_long PutsAllPins _ _ _ _ put.puts ∙ ap length first in
    let back = written_back c.in-Err.pinned.cpus.len now.cpus c.in-Err.pinned.cpus.items long (sym c.deref_mut.ensures.len ∙ ap length first) in
    let puts : ForEachCpu PutsAllPins c.args.locked.machine c.args.cpus.items now.locked.machine now.cpus =
    subst (λ (z : KnownLocked × List CpuInRun). ForEachCpu PutsAllPins z.0.machine z.1 now.locked.machine now.cpus)
    (λ i. (same.locked i, (first ∙ same.cpus) i)) put.puts in
    let sizes = put.sizes ∙ ap (λ (l : KnownLocked). l.sizes) same.locked in
    let some = same.some_pin in
    record {
      leaves = leaves_nothing t (system_state c.args.locked c.args.cpus.items) c.in-Err.pinned.pins c.in-Ok-make_last_visits.emptied now.locked now.cpus
          same.pins puts sizes (λ none. absurd (omega (arith, some, none)))
          (subst (λ (l : List CpuInRun). MakesLastVisits t now.locked l c.in-Ok-make_last_visits.emptied) back c.in-Ok-make_last_visits.ensures.visits);
    }
