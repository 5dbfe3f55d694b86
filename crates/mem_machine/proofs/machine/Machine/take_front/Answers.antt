use Rattle.std.proofs.Common.{subst, sym, rules}
use Rattle.mem_machine.specs.{machine_of, Visits, KnownMachine, HoldsPage}
use Rattle.mem_machine.proofs.Fronts.{front_may, front_noted, front_paid, front_sound}
use Rattle.mem_machine.proofs.machine.Machine.take_front.Goals as goal

pub take_front-frame-requires-clause-legal : goal.take_front-frame-requires-clause-legal
take_front-frame-requires-clause-legal g c =
    let t = g.N.BootName.table in
    front_may t (machine_of c.self.inside) c.args.cpu.now (subst (λ (x : KnownMachine). Visits t x c.args.cpu.now) (sym c.self.view_is) c.requires.visit) c.args.group
    (subst (λ (x : KnownMachine). HoldsPage t x c.args.cpu.now.number c.args.group) (sym c.self.view_is) c.requires.page) c.requires.none_fresh c.requires.front

pub invariant_of-self : goal.invariant_of-self
invariant_of-self g c =
    let t = g.N.BootName.table in
    front_sound t c.self.inside c.self.invariant _ c.self.view_is c.args.cpu.now c.requires.visit c.args.group c.requires.page c.requires.none_fresh c.requires.front _
    (front_noted t (machine_of c.self.inside).run c.args.cpu.now.number c.args.group _ _ c.number-cpu_number.ensures.number c.number.ensures.value _ _ c.take_front-frame.ensures.run (c.take.ensures _ _ (search rules)))

pub returns : goal.returns
returns g c =
    let t = g.N.BootName.table in
    let m = machine_of c.self.inside in
    let noted = front_noted t m.run c.args.cpu.now.number c.args.group _ _ c.number-cpu_number.ensures.number c.number.ensures.value _ _ c.take_front-frame.ensures.run (c.take.ensures _ _ (search rules)) in
    let all = front_paid t m _ c.self.view_is c.args.cpu.now c.requires.visit c.args.group c.take_front-frame.result c.requires.page c.requires.none_fresh c.requires.front _
    c.take_front-frame.ensures.cpu _ noted in
    record { pays = all.pays; frame = c.take_front-frame.ensures.frame; visit = all.visit; steps = all.steps }
