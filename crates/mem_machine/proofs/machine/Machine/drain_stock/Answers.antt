use Rattle.std.proofs.Common.{◌≡◌, Some, None, refl, sym, ◌∙◌, arith, rules}
use Rattle.step_rules.specs.declared.step.Action.TheVariants.{DrainStock}
use Rattle.mem_machine.specs.{machine_of, stock_group}
use Rattle.mem_machine.proofs.AtTable.{made_at, may_at}
use Rattle.mem_machine.proofs.Drained.{drained_consistent, drained_entry, drained_now, drained_sums, emptied_sound, knows_drain, no_group_none, noted_none, noted_some, owners_then, sum_within, there_now, ungrant_may}
use Rattle.mem_machine.proofs.Draining.{drain_may, drained_none}
use Rattle.mem_machine.proofs.Entries.{entry_read}
use Rattle.mem_machine.proofs.Made.{held_here}
use Rattle.mem_machine.proofs.Noted.{legal_step}
use Rattle.mem_machine.proofs.Owning.{owner_at}
use Rattle.mem_machine.proofs.machine.Machine.drain_stock.Goals as goal

pub drain-pages-requires-clause-legal : goal.drain-pages-requires-clause-legal
drain-pages-requires-clause-legal g c =
    may_at _ _ c.args.tables.now.words_are 0 refl c.self.inside.past (DrainStock c.args.cpu)
    (drain_may g.N.BootName.table c.self.inside.past (held_here g.N.BootName.table (machine_of c.self.inside) _ c.self.view_is c.requires.held) c.args.cpu c.requires.cpu)

pub group-requires : goal.group-requires
group-requires g c = let few = c.self.invariant.owners.few in omega (arith, few, c.requires.cpu.0, c.requires.cpu.1)

pub unreachable-requires : goal.unreachable-requires
unreachable-requires g c =
    let t = g.N.BootName.table in
    let m = machine_of c.self.inside in
    let knows = knows_drain t _ c.args.tables.now.words_are m _ c.self.view_is c.requires.held c.args.cpu _ c.requires.cpu _ c.drain-pages.ensures in
    let none : stock_group t m c.args.cpu ≡ None = owner_at t.cpus _ _ c.self.invariant.owners c.args.cpu c.requires.cpu.0 c.requires.cpu.1 ∙ sym c.group.ensures ∙ c.in_default.is in
    let no_page = no_group_none t m c.self.invariant.consistent c.args.cpu _ knows none in
    let some = c.if-pages-gt0.true in
    absurd (omega (arith, no_page, some))

pub index_mut-requires : goal.index_mut-requires
index_mut-requires g c =
    let t = g.N.BootName.table in
    let m = machine_of c.self.inside in
    let knows = knows_drain t _ c.args.tables.now.words_are m _ c.self.view_is c.requires.held c.args.cpu _ c.requires.cpu _ c.drain-pages.ensures in
    let owner : stock_group t m c.args.cpu ≡ Some c.in-Some.group = owner_at t.cpus _ _ c.self.invariant.owners c.args.cpu c.requires.cpu.0 c.requires.cpu.1 ∙ sym c.group.ensures ∙ c.in-Some.is in
    let inside = drained_entry t c.self.inside c.self.invariant c.args.cpu _ knows c.in-Some.group owner c.if-pages-gt0.true in
    omega (arith, inside, c.number.ensures.value)

pub overflow_sub-index_mut : goal.overflow_sub-index_mut
overflow_sub-index_mut g c =
    let t = g.N.BootName.table in
    let m = machine_of c.self.inside in
    let knows = knows_drain t _ c.args.tables.now.words_are m _ c.self.view_is c.requires.held c.args.cpu _ c.requires.cpu _ c.drain-pages.ensures in
    let owner : stock_group t m c.args.cpu ≡ Some c.in-Some.group = owner_at t.cpus _ _ c.self.invariant.owners c.args.cpu c.requires.cpu.0 c.requires.cpu.1 ∙ sym c.group.ensures ∙ c.in-Some.is in
    let within = sum_within t m c.self.invariant.consistent c.args.cpu _ knows _ c.self.invariant.sums c.in-Some.group owner in
    let inside = drained_entry t c.self.inside c.self.invariant c.args.cpu _ knows c.in-Some.group owner c.if-pages-gt0.true in
    let read = entry_read _ _ _ _ c.number.ensures.value inside c.index_mut.ensures.value in
    omega (arith, within, read)

pub uncharge-requires : goal.uncharge-requires
uncharge-requires g c =
    let t = g.N.BootName.table in
    let m = machine_of c.self.inside in
    let knows = knows_drain t _ c.args.tables.now.words_are m _ c.self.view_is c.requires.held c.args.cpu _ c.requires.cpu _ c.drain-pages.ensures in
    let owner : stock_group t m c.args.cpu ≡ Some c.in-Some.group = owner_at t.cpus _ _ c.self.invariant.owners c.args.cpu c.requires.cpu.0 c.requires.cpu.1 ∙ sym c.group.ensures ∙ c.in-Some.is in
    let both = there_now t m c.self.invariant.consistent c.args.cpu _ knows c.in-Some.group owner c.if-pages-gt0.true in
    record { there = both.0; charged = both.1 }

pub make_step-requires-clause-legal : goal.make_step-requires-clause-legal
make_step-requires-clause-legal g c =
    let t = g.N.BootName.table in
    let m = machine_of c.self.inside in
    let knows = knows_drain t _ c.args.tables.now.words_are m _ c.self.view_is c.requires.held c.args.cpu _ c.requires.cpu _ c.drain-pages.ensures in
    let owner : stock_group t m c.args.cpu ≡ Some c.in-Some.group = owner_at t.cpus _ _ c.self.invariant.owners c.args.cpu c.requires.cpu.0 c.requires.cpu.1 ∙ sym c.group.ensures ∙ c.in-Some.is in
    legal_step _ _ _ _ (ungrant_may t m c.self.invariant.consistent c.args.cpu _ knows c.in-Some.group owner c.if-pages-gt0.true _
    (made_at _ _ c.args.tables.now.words_are 0 refl _ _ _ _ c.drain-pages.ensures)) tt (search rules)

pub invariant_of-self : goal.invariant_of-self
invariant_of-self g c =
    let t = g.N.BootName.table in
    let m = machine_of c.self.inside in
    let knows = knows_drain t _ c.args.tables.now.words_are m _ c.self.view_is c.requires.held c.args.cpu _ c.requires.cpu _ c.drain-pages.ensures in
    let owner : stock_group t m c.args.cpu ≡ Some c.in-Some.group = owner_at t.cpus _ _ c.self.invariant.owners c.args.cpu c.requires.cpu.0 c.requires.cpu.1 ∙ sym c.group.ensures ∙ c.in-Some.is in
    let noted = noted_some t _ c.args.tables.now.words_are m.run c.args.cpu _ c.in-Some.group c.if-pages-gt0.true _ _ c.drain-pages.ensures (c.take.ensures _ _ (search rules)) _ (c.make_step.ensures.notes _ _ (search rules)) in
    record {
      consistent = drained_consistent t m c.self.invariant.consistent c.args.cpu _ knows (Some c.in-Some.group) owner _ noted _ c.uncharge.ensures.uncharged;
      free = c.self.invariant.free;
      clean = c.self.invariant.clean;
      sums = drained_sums t c.self.inside c.self.invariant c.args.cpu _ knows c.in-Some.group owner c.if-pages-gt0.true _ _ c.number.ensures.value c.index_mut.ensures.value _ noted;
      owners = owners_then t m c.self.invariant.consistent c.args.cpu _ knows (Some c.in-Some.group) owner _ noted _ c.self.invariant.owners;
    }

pub invariant_of-self-else-pages-gt0 : goal.invariant_of-self-else-pages-gt0
invariant_of-self-else-pages-gt0 g c =
    let t = g.N.BootName.table in
    let m = machine_of c.self.inside in
    let knows = knows_drain t _ c.args.tables.now.words_are m _ c.self.view_is c.requires.held c.args.cpu _ c.requires.cpu _ c.drain-pages.ensures in
    let none : c.drain-pages.result ≡ 0 = search rules in
    emptied_sound t c.self.inside c.self.invariant c.args.cpu _ knows none _
    (noted_none t _ c.args.tables.now.words_are m.run c.args.cpu _ (stock_group t m c.args.cpu) none _ _ c.drain-pages.ensures (c.take.ensures _ _ (search rules)))

pub returns-in-Some : goal.returns-in-Some
returns-in-Some g c =
    let t = g.N.BootName.table in
    let m = machine_of c.self.inside in
    let knows = knows_drain t _ c.args.tables.now.words_are m _ c.self.view_is c.requires.held c.args.cpu _ c.requires.cpu _ c.drain-pages.ensures in
    let owner : stock_group t m c.args.cpu ≡ Some c.in-Some.group = owner_at t.cpus _ _ c.self.invariant.owners c.args.cpu c.requires.cpu.0 c.requires.cpu.1 ∙ sym c.group.ensures ∙ c.in-Some.is in
    let noted = noted_some t _ c.args.tables.now.words_are m.run c.args.cpu _ c.in-Some.group c.if-pages-gt0.true _ _ c.drain-pages.ensures (c.take.ensures _ _ (search rules)) _ (c.make_step.ensures.notes _ _ (search rules)) in
    let all = drained_now t m c.self.invariant.consistent c.args.cpu _ knows (Some c.in-Some.group) owner _ noted _ c.self.view_is _ c.uncharge.ensures.uncharged in
    record { drains = all.drains; steps = all.steps; visit = all.visit }

pub returns-else-pages-gt0 : goal.returns-else-pages-gt0
returns-else-pages-gt0 g c =
    let t = g.N.BootName.table in
    let m = machine_of c.self.inside in
    let knows = knows_drain t _ c.args.tables.now.words_are m _ c.self.view_is c.requires.held c.args.cpu _ c.requires.cpu _ c.drain-pages.ensures in
    let none : c.drain-pages.result ≡ 0 = search rules in
    let o = stock_group t m c.args.cpu in
    let noted = noted_none t _ c.args.tables.now.words_are m.run c.args.cpu _ o none _ _ c.drain-pages.ensures (c.take.ensures _ _ (search rules)) in
    let all = drained_now t m c.self.invariant.consistent c.args.cpu _ knows o refl _ noted _ c.self.view_is _ (drained_none c.self.inside.charges o _ none) in
    record { drains = all.drains; steps = all.steps; visit = all.visit }
