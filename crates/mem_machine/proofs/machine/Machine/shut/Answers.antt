use Rattle.std.proofs.Common.{◌∙◌, ℕ, refl, sym, subst, rules}
use Rattle.step_rules.specs.declared.phase.Hold.TheVariants.{HeldBy}
use Rattle.step_rules.specs.declared.step.Action.TheVariants.{ShutVisit}
use Rattle.step_rules.specs.declared.step.Answer.TheVariants.{Done}
use Rattle.step_rules.specs.After.{zone_makes}
use Rattle.boot_words.specs.Tables.{KnownTable}
use Rattle.step_watch.specs.Watched.{Watches}
use Rattle.boot_words.specs.Pasts.{IsHeld, MakesStep, MayMake}
use Rattle.mem_machine.specs.{machine_of, IsOpen, Makes, KnownMachine, with_run, shut_steps}
use Rattle.mem_machine.proofs.AtTable.{made_at, may_at}
use Rattle.mem_machine.proofs.Holds.{hold_then, holds_then, makes_then, may_shut, visit_holds, sound_held}
use Rattle.mem_machine.proofs.Made.{holds_here}
use Rattle.mem_machine.proofs.Noted.{notes_one}
use Rattle.mem_machine.proofs.machine.Machine.shut.Goals as goal

pub shut_visit-requires-clause-held : goal.shut_visit-requires-clause-held
shut_visit-requires-clause-held g c =
    let holds = holds_here g.N.BootName.table (machine_of c.self.inside) _ c.self.view_is c.args.cpu.now (visit_holds g.N.BootName.table _ c.args.cpu.now c.requires) in
    subst (λ (t : KnownTable). IsHeld t c.self.inside.past) (sym c.args.tables.now.words_are) holds.held

pub shut_visit-requires-clause-holder : goal.shut_visit-requires-clause-holder
shut_visit-requires-clause-holder g c =
    let holds = holds_here g.N.BootName.table (machine_of c.self.inside) _ c.self.view_is c.args.cpu.now (visit_holds g.N.BootName.table _ c.args.cpu.now c.requires) in
    c.number-cpu_number.ensures.number ∙ sym holds.who

pub shut_visit-requires-clause-legal : goal.shut_visit-requires-clause-legal
shut_visit-requires-clause-legal g c =
    let holds = holds_here g.N.BootName.table (machine_of c.self.inside) _ c.self.view_is c.args.cpu.now (visit_holds g.N.BootName.table _ c.args.cpu.now c.requires) in
    let legal = may_shut g.N.BootName.table c.self.inside c.self.invariant c.args.cpu.now holds
    (subst (λ (k : KnownMachine). IsOpen g.N.BootName.table k c.args.cpu.now.number) (sym c.self.view_is) c.requires.is_open) in
    may_at _ _ c.args.tables.now.words_are 0 refl c.self.inside.past (ShutVisit c.number-cpu_number.result)
    (subst (λ (n : ℕ). MayMake g.N.BootName.table c.self.inside.past 0 (ShutVisit n)) (sym c.number-cpu_number.ensures.number) legal.legal)

pub invariant_of-self : goal.invariant_of-self
invariant_of-self g c =
    let holds = holds_here g.N.BootName.table (machine_of c.self.inside) _ c.self.view_is c.args.cpu.now (visit_holds g.N.BootName.table _ c.args.cpu.now c.requires) in
    let made = made_at g.N.BootName.table _ c.args.tables.now.words_are 0 refl c.self.inside.past (ShutVisit c.number-cpu_number.result) Done c.shut_visit.new.held c.shut_visit.ensures in
    let noted = notes_one g.N.BootName.table (machine_of c.self.inside).run (zone_makes (ShutVisit c.args.cpu.now.number) Done) (record { past = c.shut_visit.new.held; watch = c.take.new.self })
    (subst (λ (n : ℕ). MakesStep g.N.BootName.table c.self.inside.past 0 (ShutVisit n) Done c.shut_visit.new.held) c.number-cpu_number.ensures.number made)
    (subst (λ (n : ℕ). Watches c.self.inside.watch (shut_steps n) c.take.new.self) c.number-cpu_number.ensures.number (c.take.ensures _ _ (search rules))) in
    sound_held g.N.BootName.table c.self.inside c.self.invariant c.args.cpu.now holds (zone_makes (ShutVisit c.args.cpu.now.number) Done) (HeldBy c.args.cpu.now.number) refl _ noted

pub returns-clause-steps : goal.returns-clause-steps
returns-clause-steps g c =
    let holds = holds_here g.N.BootName.table (machine_of c.self.inside) _ c.self.view_is c.args.cpu.now (visit_holds g.N.BootName.table _ c.args.cpu.now c.requires) in
    let legal = may_shut g.N.BootName.table c.self.inside c.self.invariant c.args.cpu.now holds
    (subst (λ (k : KnownMachine). IsOpen g.N.BootName.table k c.args.cpu.now.number) (sym c.self.view_is) c.requires.is_open) in
    let made = made_at g.N.BootName.table _ c.args.tables.now.words_are 0 refl c.self.inside.past (ShutVisit c.number-cpu_number.result) Done c.shut_visit.new.held c.shut_visit.ensures in
    let noted = notes_one g.N.BootName.table (machine_of c.self.inside).run (zone_makes (ShutVisit c.args.cpu.now.number) Done) (record { past = c.shut_visit.new.held; watch = c.take.new.self })
    (subst (λ (n : ℕ). MakesStep g.N.BootName.table c.self.inside.past 0 (ShutVisit n) Done c.shut_visit.new.held) c.number-cpu_number.ensures.number made)
    (subst (λ (n : ℕ). Watches c.self.inside.watch (shut_steps n) c.take.new.self) c.number-cpu_number.ensures.number (c.take.ensures _ _ (search rules))) in
    subst (λ (k : KnownMachine). Makes g.N.BootName.table k (shut_steps c.args.cpu.now.number)
    (with_run (machine_of c.self.inside) (record { past = c.shut_visit.new.held; watch = c.take.new.self }))) c.self.view_is (makes_then g.N.BootName.table c.self.inside c.self.invariant c.args.cpu.now holds (zone_makes (ShutVisit c.args.cpu.now.number) Done) (HeldBy c.args.cpu.now.number) refl _ noted legal refl refl)

pub returns-clause-holds : goal.returns-clause-holds
returns-clause-holds g c =
    let holds = holds_here g.N.BootName.table (machine_of c.self.inside) _ c.self.view_is c.args.cpu.now (visit_holds g.N.BootName.table _ c.args.cpu.now c.requires) in
    let made = made_at g.N.BootName.table _ c.args.tables.now.words_are 0 refl c.self.inside.past (ShutVisit c.number-cpu_number.result) Done c.shut_visit.new.held c.shut_visit.ensures in
    let noted = notes_one g.N.BootName.table (machine_of c.self.inside).run (zone_makes (ShutVisit c.args.cpu.now.number) Done) (record { past = c.shut_visit.new.held; watch = c.take.new.self })
    (subst (λ (n : ℕ). MakesStep g.N.BootName.table c.self.inside.past 0 (ShutVisit n) Done c.shut_visit.new.held) c.number-cpu_number.ensures.number made)
    (subst (λ (n : ℕ). Watches c.self.inside.watch (shut_steps n) c.take.new.self) c.number-cpu_number.ensures.number (c.take.ensures _ _ (search rules))) in
    holds_then g.N.BootName.table c.self.inside c.self.invariant c.args.cpu.now holds (zone_makes (ShutVisit c.args.cpu.now.number) Done) (HeldBy c.args.cpu.now.number) refl _ noted

pub returns-clause-shut : goal.returns-clause-shut
returns-clause-shut g c =
    let holds = holds_here g.N.BootName.table (machine_of c.self.inside) _ c.self.view_is c.args.cpu.now (visit_holds g.N.BootName.table _ c.args.cpu.now c.requires) in
    let made = made_at g.N.BootName.table _ c.args.tables.now.words_are 0 refl c.self.inside.past (ShutVisit c.number-cpu_number.result) Done c.shut_visit.new.held c.shut_visit.ensures in
    let noted = notes_one g.N.BootName.table (machine_of c.self.inside).run (zone_makes (ShutVisit c.args.cpu.now.number) Done) (record { past = c.shut_visit.new.held; watch = c.take.new.self })
    (subst (λ (n : ℕ). MakesStep g.N.BootName.table c.self.inside.past 0 (ShutVisit n) Done c.shut_visit.new.held) c.number-cpu_number.ensures.number made)
    (subst (λ (n : ℕ). Watches c.self.inside.watch (shut_steps n) c.take.new.self) c.number-cpu_number.ensures.number (c.take.ensures _ _ (search rules))) in
    hold_then g.N.BootName.table c.self.inside c.self.invariant c.args.cpu.now holds (zone_makes (ShutVisit c.args.cpu.now.number) Done) (HeldBy c.args.cpu.now.number) refl _ noted
