use Rattle.std.proofs.Common.{refl, sym, subst}
use Rattle.mem_machine.specs.{machine_of, Makes, StaysVisited, drain_steps, Drains, stock_group}
use Rattle.mem_machine.proofs.Drained.{drains_noted, makes_noted, noted_sound}
use Rattle.mem_machine.proofs.Made.{visit_same}
use Rattle.mem_machine.proofs.machine.Machine.drain_noted.Goals as goal

pub invariant_of-self : goal.invariant_of-self
invariant_of-self g c = noted_sound g.N.BootName.table c.self.inside _ c.self.invariant

pub returns-clause-drains : goal.returns-clause-drains
returns-clause-drains g c =
    drains_noted g.N.BootName.table _ (machine_of c.self.inside) c.args.cpu _
    (subst (Drains g.N.BootName.table c.args.cpu c.drain_stock-pages.result c.args.self.now) (sym c.self.view_is) c.drain_stock-pages.ensures.drains) _ c.note.ensures

pub returns-clause-steps : goal.returns-clause-steps
returns-clause-steps g c =
    let t = g.N.BootName.table in
    makes_noted t _ (machine_of c.self.inside) _ _
    (subst (Makes t c.args.self.now (drain_steps c.args.cpu (stock_group t c.args.self.now c.args.cpu) c.drain_stock-pages.result)) (sym c.self.view_is) c.drain_stock-pages.ensures.steps)

pub returns-clause-visit : goal.returns-clause-visit
returns-clause-visit g c =
    let t = g.N.BootName.table in
    let stays : StaysVisited t c.args.self.now (machine_of c.self.inside) = subst (StaysVisited t c.args.self.now) (sym c.self.view_is) c.drain_stock-pages.ensures.visit in
    λ cpu visit. visit_same t (machine_of c.self.inside) _ cpu refl (stays cpu visit)
