use Rattle.std.proofs.Common.{◌∙◌, ap, subst, sym}
use Rattle.mem_machine.specs.{IsShut, KnownMachine}
use Rattle.mem_system.specs.{CpuInRun, cpu_in_run, SettlesInVisit, VisitsUnderLock, machine_and_cpu}
use Rattle.mem_system.proofs.Locking.{holds_seen, locked_visit, same_holder}
use Rattle.mem_system.proofs.last_visits.settle_under_lock.Goals as goal

pub settle_cpu-requires-clause-shut : goal.settle_cpu-requires-clause-shut
settle_cpu-requires-clause-shut g c =
    subst (λ (k : KnownMachine). IsShut g.N.BootName.table k c.cpu.inside.part.number) (sym c.take_step.ensures.machine) c.lock.ensures.shut

pub settle_cpu-requires-clause-holds : goal.settle_cpu-requires-clause-holds
settle_cpu-requires-clause-holds g c =
    holds_seen g.N.BootName.table c.lock.new.self c.take_step.new.self c.cpu.inside.part c.take_step.ensures.machine c.lock.ensures.holds

pub unlock-requires-clause-holds : goal.unlock-requires-clause-holds
unlock-requires-clause-holds g c =
    holds_seen g.N.BootName.table c.settle_cpu.new.machine c.take_step-2.new.self c.settle_cpu.new.cpu c.take_step-2.ensures.machine c.settle_cpu.ensures.holds

pub unlock-requires-clause-shut : goal.unlock-requires-clause-shut
unlock-requires-clause-shut g c =
    subst (λ (k : KnownMachine). IsShut g.N.BootName.table k c.settle_cpu.new.cpu.number) (sym c.take_step-2.ensures.machine) c.settle_cpu.ensures.shut

pub unlock-requires-clause-number : goal.unlock-requires-clause-number
unlock-requires-clause-number g c =
    let t = g.N.BootName.table in
    let first = holds_seen t c.lock.new.self c.take_step.new.self c.cpu.inside.part c.take_step.ensures.machine c.lock.ensures.holds in
    ap (λ seat. seat.number) c.lock.ensures.given ∙ c.cpu.invariant.number
    ∙ sym (same_holder t SettlesInVisit c.take_step.new.self c.settle_cpu.new.machine c.cpu.inside.part c.settle_cpu.new.cpu c.settle_cpu.ensures.settles first
    c.settle_cpu.ensures.holds)

pub returns-clause-settles : goal.returns-clause-settles
returns-clause-settles g c =
    let t = g.N.BootName.table in
    subst (λ (x : CpuInRun). VisitsUnderLock t SettlesInVisit (machine_and_cpu c.args.machine.now x)
    (machine_and_cpu c.unlock.new.self (cpu_in_run c.settle_cpu.new.cpu c.unlock.new.seat))) c.cpu.view_is
    (locked_visit t SettlesInVisit c.args.machine.now c.lock.new.self c.take_step.new.self c.settle_cpu.new.machine c.take_step-2.new.self
    c.unlock.new.self c.cpu.inside.part c.settle_cpu.new.cpu c.number-cpu_number.result (c.number-cpu_number.ensures.number ∙ sym (ap (λ (x : CpuInRun). x.part.number) c.cpu.view_is))
    c.lock.ensures.machine c.take_step.ensures.machine c.take_step.ensures.watched
    (holds_seen t c.lock.new.self c.take_step.new.self c.cpu.inside.part c.take_step.ensures.machine c.lock.ensures.holds)
    c.settle_cpu.ensures.settles c.take_step-2.ensures.machine c.take_step-2.ensures.watched
    c.unlock.ensures.machine c.cpu.inside.past c.unlock.new.seat (sym c.cpu.invariant.is.number ∙ c.cpu.invariant.number) c.lock.ensures.run c.unlock.ensures.run)
