use Rattle.std.proofs.Common.{sym, subst}
use Rattle.step_rules.specs.declared.phase.Hold.TheVariants.{HeldBy}
use Rattle.boot_words.specs.Pasts.{Locks, own_past}
use Rattle.boot_words.specs.Cpus.{IsAwayCpu}
use Rattle.boot_words.specs.Tables.{KnownTable}
use Rattle.mem_machine.specs.{machine_of, KnownMachine, with_past}
use Rattle.mem_machine.proofs.Locks.{locked_holds, locked_shut, rests_at, sound_then}
use Rattle.mem_machine.proofs.machine.Machine.lock.Goals as goal

pub lock-requires-clause-zone : goal.lock-requires-clause-zone
lock-requires-clause-zone g c = (rests_at _ _ c.args.tables.now.words_are (machine_of c.self.inside) _ c.self.view_is c.requires.rests).0

pub lock-requires-clause-free : goal.lock-requires-clause-free
lock-requires-clause-free g c = (rests_at _ _ c.args.tables.now.words_are (machine_of c.self.inside) _ c.self.view_is c.requires.rests).1

pub lock-requires-clause-cpu : goal.lock-requires-clause-cpu
lock-requires-clause-cpu g c = subst (λ (t : KnownTable). IsAwayCpu t c.args.seat.now) (sym c.args.tables.now.words_are) c.requires.knows.is

pub invariant_of-self : goal.invariant_of-self
invariant_of-self g c =
    let locks = subst (λ (t : KnownTable). Locks t c.self.inside.past c.args.seat.now.past c.lock.new.zone) c.args.tables.now.words_are c.lock.ensures.run in
    sound_then g.N.BootName.table c.self.inside c.self.invariant c.lock.new.zone (HeldBy (own_past c.args.seat.now.past).number) locks.found

pub returns-clause-holds : goal.returns-clause-holds
returns-clause-holds g c =
    let locks = subst (λ (t : KnownTable). Locks t c.self.inside.past c.args.seat.now.past c.lock.new.zone) c.args.tables.now.words_are c.lock.ensures.run in
    locked_holds g.N.BootName.table c.self.inside.past c.args.seat.now c.args.cpu.now (with_past (machine_of c.self.inside) c.lock.new.zone) c.requires.knows locks

pub returns-clause-shut : goal.returns-clause-shut
returns-clause-shut g c =
    let locks = subst (λ (t : KnownTable). Locks t c.self.inside.past c.args.seat.now.past c.lock.new.zone) c.args.tables.now.words_are c.lock.ensures.run in
    locked_shut g.N.BootName.table c.self.inside.past c.args.seat.now c.args.cpu.now (with_past (machine_of c.self.inside) c.lock.new.zone) c.requires.knows locks

pub returns-clause-run : goal.returns-clause-run
returns-clause-run g c =
    let locks = subst (λ (t : KnownTable). Locks t c.self.inside.past c.args.seat.now.past c.lock.new.zone) c.args.tables.now.words_are c.lock.ensures.run in
    subst (λ (k : KnownMachine). Locks g.N.BootName.table k.run.past c.args.seat.now.past c.lock.new.zone) c.self.view_is locks
