use Rattle.std.proofs.Common.{◌≡◌, ℕ, ◌+◌, ◌<◌, ◌^◌, IsTrue, refl, sym, ap, ◌∙◌, subst, arith, rules}
use Rattle.group_tree.specs.Groups.{has_group}
use Rattle.group_charge.specs.Charges.{current_of}
use Rattle.step_rules.specs.declared.step.Action.TheVariants.{Fill, Grant}
use Rattle.step_rules.specs.declared.step.Answer.TheVariants.{Granted}
use Rattle.step_rules.specs.State.{State}
use Rattle.boot_words.specs.Pasts.{MayMake, local_by_pasts}
use Rattle.step_rules.specs.Laws.{IsLocalStep}
use Rattle.boot_words.specs.Tables.{KnownTable}
use Rattle.mem_machine.specs.{machine_of, local_of, KnownMachine}
use Rattle.mem_machine.proofs.Noted.{legal_step}
use Rattle.mem_machine.proofs.Prepaying.{fill_entry, fill_fits, fill_leads, fill_may, fill_noted, filled_now, filler_is, knows_fill, nothing_booked, refused_may, refused_now, refused_sound, refused_visits, sound_consistent, sound_owners, sound_sums}
use Rattle.mem_machine.proofs.machine.Machine.fill_stock.Goals as goal

pub try_charge-requires-clause-there : goal.try_charge-requires-clause-there
try_charge-requires-clause-there g c = subst (λ (m : KnownMachine). IsTrue (has_group m.ledger.groups c.args.group)) (sym c.self.view_is) c.requires.charges.there

pub try_charge-requires-clause-fits : goal.try_charge-requires-clause-fits
try_charge-requires-clause-fits g c = subst (λ (m : KnownMachine). current_of m.ledger 0 + c.args.pages < 2 ^ 32) (sym c.self.view_is) c.requires.charges.fits

-- ---- a limit has no room

pub make_step-requires-clause-legal : goal.make_step-requires-clause-legal
make_step-requires-clause-legal g c =
    let t = g.N.BootName.table in
    let m = machine_of c.self.inside in
    let cpu = c.args.cpu.now in
    let knows = knows_fill t m _ c.self.view_is cpu c.args.group c.args.pages c.requires.visit c.requires.charges c.requires.drained in
    let ok = c.self.invariant.consistent in
    let facts = c.prove_charges.ensures.legal in
    legal_step _ _ _ _ (refused_may t m ok facts knows.visit.held c.args.group c.args.pages c.in-Err.over.group knows.there knows.alive c.in-Err.ensures.over) tt (search rules)

pub invariant_of-self : goal.invariant_of-self
invariant_of-self g c =
    let t = g.N.BootName.table in
    let m = machine_of c.self.inside in
    let cpu = c.args.cpu.now in
    let knows = knows_fill t m _ c.self.view_is cpu c.args.group c.args.pages c.requires.visit c.requires.charges c.requires.drained in
    let ok = c.self.invariant.consistent in
    let facts = c.prove_charges.ensures.legal in
    refused_sound t c.self.inside c.self.invariant cpu c.args.group c.args.pages c.in-Err.over.group facts knows c.in-Err.ensures.over _ (c.make_step.ensures.notes _ _ (search rules)) _ c.in-Err.ensures.unchanged

pub returns-in-Err-clause-refused : goal.returns-in-Err-clause-refused
returns-in-Err-clause-refused g c =
    let t = g.N.BootName.table in
    let m = machine_of c.self.inside in
    let cpu = c.args.cpu.now in
    let knows = knows_fill t m _ c.self.view_is cpu c.args.group c.args.pages c.requires.visit c.requires.charges c.requires.drained in
    let ok = c.self.invariant.consistent in
    let facts = c.prove_charges.ensures.legal in
    refused_now t c.self.inside c.self.invariant cpu c.args.group c.args.pages c.in-Err.over.group facts knows c.in-Err.ensures.over _ (c.make_step.ensures.notes _ _ (search rules)) _ c.in-Err.ensures.unchanged
    _ c.self.view_is

pub returns-in-Err-clause-visit : goal.returns-in-Err-clause-visit
returns-in-Err-clause-visit g c =
    let t = g.N.BootName.table in
    let m = machine_of c.self.inside in
    let cpu = c.args.cpu.now in
    let knows = knows_fill t m _ c.self.view_is cpu c.args.group c.args.pages c.requires.visit c.requires.charges c.requires.drained in
    let ok = c.self.invariant.consistent in
    let facts = c.prove_charges.ensures.legal in
    refused_visits t c.self.inside c.self.invariant cpu c.args.group c.args.pages c.in-Err.over.group facts knows c.in-Err.ensures.over _ (c.make_step.ensures.notes _ _ (search rules)) _ c.in-Err.ensures.unchanged

-- ---- the pages are granted, and fill the stock

pub make_step-requires-2-clause-legal : goal.make_step-requires-2-clause-legal
make_step-requires-2-clause-legal g c =
    let t = g.N.BootName.table in
    let m = machine_of c.self.inside in
    let cpu = c.args.cpu.now in
    let knows = knows_fill t m _ c.self.view_is cpu c.args.group c.args.pages c.requires.visit c.requires.charges c.requires.drained in
    let ok = c.self.invariant.consistent in
    let facts = c.prove_charges.ensures.legal in
    legal_step _ _ _ _ (subst (λ (n : ℕ). IsLocalStep (local_of t m) n 0 (Grant c.args.group c.args.pages) Granted) (sym knows.visit.who)
    (fill_leads t m cpu ok facts knows.visit c.requires.none_fresh knows.drained c.args.group c.args.pages knows.there knows.alive (c.in_default.ensures.granted.0 refl)).0) tt (search rules)

pub fill-requires-clause-cpu : goal.fill-requires-clause-cpu
fill-requires-clause-cpu g c =
    let t = g.N.BootName.table in
    let m = machine_of c.self.inside in
    let cpu = c.args.cpu.now in
    let knows = knows_fill t m _ c.self.view_is cpu c.args.group c.args.pages c.requires.visit c.requires.charges c.requires.drained in
    let ok = c.self.invariant.consistent in
    let facts = c.prove_charges.ensures.legal in
    let inside = (filler_is t m cpu ok facts knows.visit c.requires.none_fresh knows.drained).1 in
    let same = ap (λ (x : KnownTable). x.cpus) c.args.tables.now.words_are in
    omega (arith, inside, same, c.number-cpu_number.ensures.number)

pub fill-requires-clause-nothing : goal.fill-requires-clause-nothing
fill-requires-clause-nothing g c =
    let t = g.N.BootName.table in
    let m = machine_of c.self.inside in
    let cpu = c.args.cpu.now in
    let knows = knows_fill t m _ c.self.view_is cpu c.args.group c.args.pages c.requires.visit c.requires.charges c.requires.drained in
    let ok = c.self.invariant.consistent in
    let facts = c.prove_charges.ensures.legal in
    subst (λ (x : KnownTable × ℕ). ((local_by_pasts x.0 c.make_step-2.new.past).parts x.1).book ≡ 0)
    (λ i. (sym c.args.tables.now.words_are i, sym c.number-cpu_number.ensures.number i))
    (ap (λ (s : State). (s.parts cpu.number).book) (c.make_step-2.ensures.run (Grant c.args.group c.args.pages) Granted (search rules)).local_is
    ∙ nothing_booked t m cpu ok facts knows.visit c.requires.none_fresh knows.drained)

-- the fill is the second step, legal because nothing is booked for the CPU
pub fill-requires-clause-legal : goal.fill-requires-clause-legal
fill-requires-clause-legal g c =
    let t = g.N.BootName.table in
    let m = machine_of c.self.inside in
    let cpu = c.args.cpu.now in
    let knows = knows_fill t m _ c.self.view_is cpu c.args.group c.args.pages c.requires.visit c.requires.charges c.requires.drained in
    let ok = c.self.invariant.consistent in
    let facts = c.prove_charges.ensures.legal in
    subst (λ (x : KnownTable × ℕ × ℕ). MayMake x.0 c.make_step-2.new.past 0 (Fill x.1 x.2 c.args.pages))
    (λ i. (sym c.args.tables.now.words_are i, sym c.number-cpu_number.ensures.number i, sym c.number-owner.ensures.value i))
    ((fill_may t m cpu ok facts knows.visit c.requires.none_fresh knows.drained c.args.group c.args.pages knows.there knows.alive (c.in_default.ensures.granted.0 refl)).1
    _ (c.make_step-2.ensures.run _ _ (search rules))).0.legal

pub overflow_add-index_mut : goal.overflow_add-index_mut
overflow_add-index_mut g c =
    let t = g.N.BootName.table in
    let m = machine_of c.self.inside in
    let cpu = c.args.cpu.now in
    let knows = knows_fill t m _ c.self.view_is cpu c.args.group c.args.pages c.requires.visit c.requires.charges c.requires.drained in
    let ok = c.self.invariant.consistent in
    let facts = c.prove_charges.ensures.legal in
    let fits = fill_fits t c.self.inside c.self.invariant cpu c.args.group c.args.pages facts knows c.requires.none_fresh _ c.self.view_is c.requires.charges.fits
    c.number-owner.result _ c.number-owner.ensures.value c.index_mut.ensures.value in
    omega (arith, fits)

pub set-requires : goal.set-requires
set-requires g c =
    let t = g.N.BootName.table in
    let m = machine_of c.self.inside in
    let cpu = c.args.cpu.now in
    let knows = knows_fill t m _ c.self.view_is cpu c.args.group c.args.pages c.requires.visit c.requires.charges c.requires.drained in
    let ok = c.self.invariant.consistent in
    let facts = c.prove_charges.ensures.legal in
    let filler = filler_is t m cpu ok facts knows.visit c.requires.none_fresh knows.drained in
    let few = c.self.invariant.owners.few in
    omega (arith, filler.0, filler.1, few, c.number-cpu_number.ensures.number)

pub invariant_of-self-2 : goal.invariant_of-self-2
invariant_of-self-2 g c =
    let t = g.N.BootName.table in
    let m = machine_of c.self.inside in
    let cpu = c.args.cpu.now in
    let knows = knows_fill t m _ c.self.view_is cpu c.args.group c.args.pages c.requires.visit c.requires.charges c.requires.drained in
    let ok = c.self.invariant.consistent in
    let facts = c.prove_charges.ensures.legal in
    let noted = fill_noted t _ c.args.tables.now.words_are m.run cpu.number c.args.group c.args.pages _ _ c.number-cpu_number.ensures.number c.number-owner.ensures.value _
    (c.make_step-2.ensures.notes _ _ (search rules)) _ _ c.fill.ensures (c.take.ensures _ _ (search rules)) in
    let has = c.in_default.ensures.granted.0 refl in
    record {
      consistent = sound_consistent t c.self.inside c.self.invariant cpu c.args.group c.args.pages facts knows c.requires.none_fresh has _ noted c.requires.pages.1 _ c.in_default.ensures.charged;
      free = c.self.invariant.free;
      clean = c.self.invariant.clean;
      sums = sound_sums t c.self.inside c.self.invariant cpu c.args.group c.args.pages facts knows c.requires.none_fresh has _ noted c.number-owner.result _ c.number-owner.ensures.value
          c.index_mut.ensures.value;
      owners = sound_owners t c.self.inside c.self.invariant cpu c.args.group c.args.pages facts knows c.requires.none_fresh has _ noted _ c.number-cpu_number.ensures.number _ c.set.ensures;
    }

pub index_mut-requires : goal.index_mut-requires
index_mut-requires g c =
    let m = machine_of c.self.inside in
    let knows = knows_fill g.N.BootName.table m _ c.self.view_is c.args.cpu.now c.args.group c.args.pages c.requires.visit c.requires.charges c.requires.drained in
    let inside = fill_entry g.N.BootName.table c.self.inside c.self.invariant c.args.cpu.now c.args.group c.args.pages c.prove_charges.ensures.legal knows c.requires.none_fresh in
    omega (arith, inside, c.number-owner.ensures.value)

pub returns-clause-fills : goal.returns-clause-fills
returns-clause-fills g c =
    let t = g.N.BootName.table in
    let m = machine_of c.self.inside in
    let cpu = c.args.cpu.now in
    let knows = knows_fill t m _ c.self.view_is cpu c.args.group c.args.pages c.requires.visit c.requires.charges c.requires.drained in
    let ok = c.self.invariant.consistent in
    let facts = c.prove_charges.ensures.legal in
    let noted = fill_noted t _ c.args.tables.now.words_are m.run cpu.number c.args.group c.args.pages _ _ c.number-cpu_number.ensures.number c.number-owner.ensures.value _
    (c.make_step-2.ensures.notes _ _ (search rules)) _ _ c.fill.ensures (c.take.ensures _ _ (search rules)) in
    (filled_now t m _ c.self.view_is cpu c.args.group c.args.pages ok facts knows c.requires.none_fresh (c.in_default.ensures.granted.0 refl) _ noted _ c.in_default.ensures.charged).fills

pub returns-clause-steps : goal.returns-clause-steps
returns-clause-steps g c =
    let t = g.N.BootName.table in
    let m = machine_of c.self.inside in
    let cpu = c.args.cpu.now in
    let knows = knows_fill t m _ c.self.view_is cpu c.args.group c.args.pages c.requires.visit c.requires.charges c.requires.drained in
    let ok = c.self.invariant.consistent in
    let facts = c.prove_charges.ensures.legal in
    let noted = fill_noted t _ c.args.tables.now.words_are m.run cpu.number c.args.group c.args.pages _ _ c.number-cpu_number.ensures.number c.number-owner.ensures.value _
    (c.make_step-2.ensures.notes _ _ (search rules)) _ _ c.fill.ensures (c.take.ensures _ _ (search rules)) in
    (filled_now t m _ c.self.view_is cpu c.args.group c.args.pages ok facts knows c.requires.none_fresh (c.in_default.ensures.granted.0 refl) _ noted _ c.in_default.ensures.charged).steps

pub returns-clause-visit : goal.returns-clause-visit
returns-clause-visit g c =
    let t = g.N.BootName.table in
    let m = machine_of c.self.inside in
    let cpu = c.args.cpu.now in
    let knows = knows_fill t m _ c.self.view_is cpu c.args.group c.args.pages c.requires.visit c.requires.charges c.requires.drained in
    let ok = c.self.invariant.consistent in
    let facts = c.prove_charges.ensures.legal in
    let noted = fill_noted t _ c.args.tables.now.words_are m.run cpu.number c.args.group c.args.pages _ _ c.number-cpu_number.ensures.number c.number-owner.ensures.value _
    (c.make_step-2.ensures.notes _ _ (search rules)) _ _ c.fill.ensures (c.take.ensures _ _ (search rules)) in
    (filled_now t m _ c.self.view_is cpu c.args.group c.args.pages ok facts knows c.requires.none_fresh (c.in_default.ensures.granted.0 refl) _ noted _ c.in_default.ensures.charged).visit
