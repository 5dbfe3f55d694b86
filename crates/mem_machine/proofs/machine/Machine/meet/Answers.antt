use Rattle.std.proofs.Common.{sym, subst}
use Rattle.boot_words.specs.{Meets, IsAwayCpu, KnownTable}
use Rattle.mem_machine.specs.{machine_of, KnownMachine, left_by}
use Rattle.mem_machine.proofs.Locks.{met_knows, rests_at, sound_then}
use Rattle.mem_machine.proofs.machine.Machine.meet.Goals as goal

pub meet-requires-clause-zone : goal.meet-requires-clause-zone
meet-requires-clause-zone g c = (rests_at _ _ c.args.tables.now.words_are (machine_of c.self.inside) _ c.self.view_is c.requires.rests).0

pub meet-requires-clause-free : goal.meet-requires-clause-free
meet-requires-clause-free g c = (rests_at _ _ c.args.tables.now.words_are (machine_of c.self.inside) _ c.self.view_is c.requires.rests).1

pub meet-requires-clause-cpu : goal.meet-requires-clause-cpu
meet-requires-clause-cpu g c = subst (λ (t : KnownTable). IsAwayCpu t c.args.seat.now) (sym c.args.tables.now.words_are) c.requires.knows.is

pub invariant_of-self : goal.invariant_of-self
invariant_of-self g c =
    let meets = subst (λ (t : KnownTable). Meets t c.self.inside.past c.args.seat.now.past c.meet.new.zone c.meet.new.cpu.past) c.args.tables.now.words_are c.meet.ensures.run in
    sound_then g.N.BootName.table c.self.inside c.self.invariant c.meet.new.zone (left_by g.N.BootName.table c.self.inside.past).hold meets.left

pub returns-clause-rests : goal.returns-clause-rests
returns-clause-rests g c =
    let meets = subst (λ (t : KnownTable). Meets t c.self.inside.past c.args.seat.now.past c.meet.new.zone c.meet.new.cpu.past) c.args.tables.now.words_are c.meet.ensures.run in
    record { past_is = meets.zone_is; free = meets.free }

pub returns-clause-knows : goal.returns-clause-knows
returns-clause-knows g c =
    let meets = subst (λ (t : KnownTable). Meets t c.self.inside.past c.args.seat.now.past c.meet.new.zone c.meet.new.cpu.past) c.args.tables.now.words_are c.meet.ensures.run in
    met_knows g.N.BootName.table c.self.inside.past c.meet.new.zone c.args.seat.now c.meet.new.cpu c.args.cpu.now c.requires.knows meets
    (subst (λ (t : KnownTable). IsAwayCpu t c.meet.new.cpu) c.args.tables.now.words_are c.meet.ensures.cpu) c.meet.ensures.same.0

pub returns-clause-meets : goal.returns-clause-meets
returns-clause-meets g c =
    let meets = subst (λ (t : KnownTable). Meets t c.self.inside.past c.args.seat.now.past c.meet.new.zone c.meet.new.cpu.past) c.args.tables.now.words_are c.meet.ensures.run in
    subst (λ (k : KnownMachine). Meets g.N.BootName.table k.run.past c.args.seat.now.past c.meet.new.zone c.meet.new.cpu.past) c.self.view_is meets

pub returns-clause-last : goal.returns-clause-last
returns-clause-last g c = c.meet.ensures.same.1
