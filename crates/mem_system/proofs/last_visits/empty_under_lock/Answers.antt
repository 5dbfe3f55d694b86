use Rattle.std.proofs.Common.{◌∙◌, ap, subst, sym}
use Rattle.mem_machine.specs.{IsShut, KnownMachine}
use Rattle.mem_system.specs.{CpuInRun, cpu_in_run, Empties, VisitsUnderLock, machine_and_cpu}
use Rattle.mem_system.proofs.Locking.{alone_seen, emptied_seen, holds_seen, locked_visit, part_given, part_taken, run_twice, same_holder}
use Rattle.mem_system.proofs.last_visits.empty_under_lock.Goals as goal

pub empty_cpu-requires-clause-shut : goal.empty_cpu-requires-clause-shut
empty_cpu-requires-clause-shut g c =
    subst (λ (k : KnownMachine). IsShut g.N.BootName.table k c.cpu.inside.part.number) (sym c.take_step.ensures.machine) c.lock.ensures.shut

pub empty_cpu-requires-clause-holds : goal.empty_cpu-requires-clause-holds
empty_cpu-requires-clause-holds g c =
    holds_seen g.N.BootName.table c.lock.new.self c.take_step.new.self c.cpu.inside.part c.take_step.ensures.machine c.lock.ensures.holds

pub unlock-requires-clause-holds : goal.unlock-requires-clause-holds
unlock-requires-clause-holds g c =
    holds_seen g.N.BootName.table c.empty_cpu.new.machine c.take_step-2.new.self c.empty_cpu.new.cpu c.take_step-2.ensures.machine c.empty_cpu.ensures.holds

pub unlock-requires-clause-shut : goal.unlock-requires-clause-shut
unlock-requires-clause-shut g c =
    subst (λ (k : KnownMachine). IsShut g.N.BootName.table k c.empty_cpu.new.cpu.number) (sym c.take_step-2.ensures.machine) c.empty_cpu.ensures.shut

pub unlock-requires-clause-number : goal.unlock-requires-clause-number
unlock-requires-clause-number g c =
    let t = g.N.BootName.table in
    let first = holds_seen t c.lock.new.self c.take_step.new.self c.cpu.inside.part c.take_step.ensures.machine c.lock.ensures.holds in
    ap (λ seat. seat.number) c.lock.ensures.given ∙ c.cpu.invariant.number
    ∙ sym (same_holder t Empties c.take_step.new.self c.empty_cpu.new.machine c.cpu.inside.part c.empty_cpu.new.cpu c.empty_cpu.ensures.empties first
    c.empty_cpu.ensures.holds)

pub returns-clause-empties : goal.returns-clause-empties
returns-clause-empties g c =
    let t = g.N.BootName.table in
    subst (λ (x : CpuInRun). VisitsUnderLock t Empties (machine_and_cpu c.args.machine.now x)
    (machine_and_cpu c.unlock.new.self (cpu_in_run c.empty_cpu.new.cpu c.unlock.new.seat))) c.cpu.view_is
    (locked_visit t Empties c.args.machine.now c.lock.new.self c.take_step.new.self c.empty_cpu.new.machine c.take_step-2.new.self
    c.unlock.new.self c.cpu.inside.part c.empty_cpu.new.cpu c.number-cpu_number.result (c.number-cpu_number.ensures.number ∙ sym (ap (λ (x : CpuInRun). x.part.number) c.cpu.view_is))
    c.lock.ensures.machine c.take_step.ensures.machine c.take_step.ensures.watched
    (holds_seen t c.lock.new.self c.take_step.new.self c.cpu.inside.part c.take_step.ensures.machine c.lock.ensures.holds)
    c.empty_cpu.ensures.empties c.take_step-2.ensures.machine c.take_step-2.ensures.watched
    c.unlock.ensures.machine c.cpu.inside.past c.unlock.new.seat (sym c.cpu.invariant.is.number ∙ c.cpu.invariant.number) c.lock.ensures.run c.unlock.ensures.run)

pub returns-clause-emptied : goal.returns-clause-emptied
returns-clause-emptied g c =
    let t = g.N.BootName.table in
    let n1 = c.empty_cpu.new.machine in
    emptied_seen t n1 c.unlock.new.self _ c.empty_cpu.new.cpu (run_twice n1 _ _ _ _ c.take_step-2.ensures.machine c.unlock.ensures.machine)
    (part_given t n1 c.take_step-2.new.self c.unlock.new.self c.empty_cpu.new.cpu _ c.take_step-2.ensures.machine c.empty_cpu.ensures.holds c.unlock.ensures.run)
    c.empty_cpu.ensures.emptied

pub returns-clause-others : goal.returns-clause-others
returns-clause-others g c =
    let t = g.N.BootName.table in
    let m = c.args.machine.now in
    let n1 = c.empty_cpu.new.machine in
    alone_seen t m c.take_step.new.self n1 c.unlock.new.self _ _ (run_twice m _ _ _ _ c.lock.ensures.machine c.take_step.ensures.machine)
    (run_twice n1 _ _ _ _ c.take_step-2.ensures.machine c.unlock.ensures.machine)
    (part_taken t m c.lock.new.self c.take_step.new.self _ c.take_step.ensures.machine c.lock.ensures.run)
    (part_given t n1 c.take_step-2.new.self c.unlock.new.self c.empty_cpu.new.cpu _ c.take_step-2.ensures.machine c.empty_cpu.ensures.holds c.unlock.ensures.run)
    c.empty_cpu.ensures.others
