use Rattle.std.proofs.Common.{◌∙◌, ℕ, ap, eq-eqb, refl, sym, subst, rules}
use Rattle.step_rules.specs.declared.phase.Hold.TheVariants.{Visiting}
use Rattle.step_rules.specs.declared.step.Action.TheVariants.{OpenVisit}
use Rattle.step_rules.specs.declared.step.Answer.TheVariants.{Done}
use Rattle.step_rules.specs.State.{visits}
use Rattle.step_rules.specs.After.{zone_makes}
use Rattle.boot_words.specs.Tables.{KnownTable}
use Rattle.step_watch.specs.Watched.{Watches}
use Rattle.boot_words.specs.Pasts.{IsHeld, MakesStep, MayMake}
use Rattle.mem_machine.specs.{machine_of, IsShut, Makes, KnownMachine, with_run, open_steps}
use Rattle.mem_machine.proofs.AtTable.{made_at, may_at}
use Rattle.mem_machine.proofs.Holds.{hold_then, holds_then, makes_then, may_open, sound_held}
use Rattle.mem_machine.proofs.Made.{holds_here}
use Rattle.mem_machine.proofs.Noted.{notes_one}
use Rattle.mem_machine.proofs.machine.Machine.open.Goals as goal

pub open_visit-requires-clause-held : goal.open_visit-requires-clause-held
open_visit-requires-clause-held g c =
    let holds = holds_here g.N.BootName.table (machine_of c.self.inside) _ c.self.view_is c.args.cpu.now c.requires.holds in
    subst (λ (t : KnownTable). IsHeld t c.self.inside.past) (sym c.args.tables.now.words_are) holds.held

pub open_visit-requires-clause-holder : goal.open_visit-requires-clause-holder
open_visit-requires-clause-holder g c =
    let holds = holds_here g.N.BootName.table (machine_of c.self.inside) _ c.self.view_is c.args.cpu.now c.requires.holds in
    c.number-cpu_number.ensures.number ∙ sym holds.who

pub open_visit-requires-clause-legal : goal.open_visit-requires-clause-legal
open_visit-requires-clause-legal g c =
    let holds = holds_here g.N.BootName.table (machine_of c.self.inside) _ c.self.view_is c.args.cpu.now c.requires.holds in
    let legal = may_open g.N.BootName.table c.self.inside c.self.invariant c.args.cpu.now holds
    (subst (λ (k : KnownMachine). IsShut g.N.BootName.table k c.args.cpu.now.number) (sym c.self.view_is) c.requires.shut) in
    may_at _ _ c.args.tables.now.words_are 0 refl c.self.inside.past (OpenVisit c.number-cpu_number.result)
    (subst (λ (n : ℕ). MayMake g.N.BootName.table c.self.inside.past 0 (OpenVisit n)) (sym c.number-cpu_number.ensures.number) legal.legal)

pub invariant_of-self : goal.invariant_of-self
invariant_of-self g c =
    let holds = holds_here g.N.BootName.table (machine_of c.self.inside) _ c.self.view_is c.args.cpu.now c.requires.holds in
    let made = made_at g.N.BootName.table _ c.args.tables.now.words_are 0 refl c.self.inside.past (OpenVisit c.number-cpu_number.result) Done c.open_visit.new.held c.open_visit.ensures in
    let noted = notes_one g.N.BootName.table (machine_of c.self.inside).run (zone_makes (OpenVisit c.args.cpu.now.number) Done) (record { past = c.open_visit.new.held; watch = c.take.new.self })
    (subst (λ (n : ℕ). MakesStep g.N.BootName.table c.self.inside.past 0 (OpenVisit n) Done c.open_visit.new.held) c.number-cpu_number.ensures.number made)
    (subst (λ (n : ℕ). Watches c.self.inside.watch (open_steps n) c.take.new.self) c.number-cpu_number.ensures.number (c.take.ensures _ _ (search rules))) in
    sound_held g.N.BootName.table c.self.inside c.self.invariant c.args.cpu.now holds (zone_makes (OpenVisit c.args.cpu.now.number) Done) (Visiting c.args.cpu.now.number) refl _ noted

pub returns-clause-steps : goal.returns-clause-steps
returns-clause-steps g c =
    let holds = holds_here g.N.BootName.table (machine_of c.self.inside) _ c.self.view_is c.args.cpu.now c.requires.holds in
    let legal = may_open g.N.BootName.table c.self.inside c.self.invariant c.args.cpu.now holds
    (subst (λ (k : KnownMachine). IsShut g.N.BootName.table k c.args.cpu.now.number) (sym c.self.view_is) c.requires.shut) in
    let made = made_at g.N.BootName.table _ c.args.tables.now.words_are 0 refl c.self.inside.past (OpenVisit c.number-cpu_number.result) Done c.open_visit.new.held c.open_visit.ensures in
    let noted = notes_one g.N.BootName.table (machine_of c.self.inside).run (zone_makes (OpenVisit c.args.cpu.now.number) Done) (record { past = c.open_visit.new.held; watch = c.take.new.self })
    (subst (λ (n : ℕ). MakesStep g.N.BootName.table c.self.inside.past 0 (OpenVisit n) Done c.open_visit.new.held) c.number-cpu_number.ensures.number made)
    (subst (λ (n : ℕ). Watches c.self.inside.watch (open_steps n) c.take.new.self) c.number-cpu_number.ensures.number (c.take.ensures _ _ (search rules))) in
    subst (λ (k : KnownMachine). Makes g.N.BootName.table k (open_steps c.args.cpu.now.number)
    (with_run (machine_of c.self.inside) (record { past = c.open_visit.new.held; watch = c.take.new.self }))) c.self.view_is (makes_then g.N.BootName.table c.self.inside c.self.invariant c.args.cpu.now holds (zone_makes (OpenVisit c.args.cpu.now.number) Done) (Visiting c.args.cpu.now.number) refl _ noted legal refl refl)

pub returns-clause-visits : goal.returns-clause-visits
returns-clause-visits g c =
    let holds = holds_here g.N.BootName.table (machine_of c.self.inside) _ c.self.view_is c.args.cpu.now c.requires.holds in
    let made = made_at g.N.BootName.table _ c.args.tables.now.words_are 0 refl c.self.inside.past (OpenVisit c.number-cpu_number.result) Done c.open_visit.new.held c.open_visit.ensures in
    let noted = notes_one g.N.BootName.table (machine_of c.self.inside).run (zone_makes (OpenVisit c.args.cpu.now.number) Done) (record { past = c.open_visit.new.held; watch = c.take.new.self })
    (subst (λ (n : ℕ). MakesStep g.N.BootName.table c.self.inside.past 0 (OpenVisit n) Done c.open_visit.new.held) c.number-cpu_number.ensures.number made)
    (subst (λ (n : ℕ). Watches c.self.inside.watch (open_steps n) c.take.new.self) c.number-cpu_number.ensures.number (c.take.ensures _ _ (search rules))) in
    let after = holds_then g.N.BootName.table c.self.inside c.self.invariant c.args.cpu.now holds (zone_makes (OpenVisit c.args.cpu.now.number) Done) (Visiting c.args.cpu.now.number) refl _ noted in
    record {
      held = after.held;
      who = after.who;
      is_open = ap (visits c.args.cpu.now.number) (hold_then g.N.BootName.table c.self.inside c.self.invariant c.args.cpu.now holds (zone_makes (OpenVisit c.args.cpu.now.number) Done) (Visiting c.args.cpu.now.number) refl _ noted) ∙ eq-eqb c.args.cpu.now.number c.args.cpu.now.number refl;
      own = after.own;
    }
