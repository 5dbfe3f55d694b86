use Rattle.std.proofs.Common.{◌≡◌, ◌∙◌, ap, sym, subst}
use Rattle.step_rules.specs.declared.phase.Hold.TheVariants.{Unheld}
use Rattle.step_rules.specs.declared.step.Action.TheVariants.{Unlock}
use Rattle.boot_words.specs.{IsHeld, MayMake, Unlocks, zone_of_boot, stock_in, IsAwayCpu, state_left, KnownTable}
use Rattle.step_rules.specs.After.{Run, state_of}
use Rattle.mem_machine.specs.{machine_of, IsShut, KnownMachine}
use Rattle.mem_machine.proofs.Locks.{may_unlock, sound_then, unlocked_found, unlocked_knows}
use Rattle.mem_machine.proofs.Made.{holds_here}
use Rattle.mem_machine.proofs.machine.Machine.unlock.Goals as goal

pub unlock-requires-clause-held : goal.unlock-requires-clause-held
unlock-requires-clause-held g c =
    let holds = holds_here g.N.BootName.table (machine_of c.self.inside) _ c.self.view_is c.args.cpu.now c.requires.holds in
    subst (λ (t : KnownTable). IsHeld t c.self.inside.past) (sym c.args.tables.now.words_are) holds.held

pub unlock-requires-clause-holder : goal.unlock-requires-clause-holder
unlock-requires-clause-holder g c =
    let holds = holds_here g.N.BootName.table (machine_of c.self.inside) _ c.self.view_is c.args.cpu.now c.requires.holds in
    c.requires.number ∙ sym holds.who

pub unlock-requires-clause-legal : goal.unlock-requires-clause-legal
unlock-requires-clause-legal g c =
    let holds = holds_here g.N.BootName.table (machine_of c.self.inside) _ c.self.view_is c.args.cpu.now c.requires.holds in
    let shut = subst (λ (k : KnownMachine). IsShut g.N.BootName.table k c.args.cpu.now.number) (sym c.self.view_is) c.requires.shut in
    subst (λ (t : KnownTable). MayMake t c.self.inside.past c.args.seat.now.number Unlock) (sym c.args.tables.now.words_are)
    (subst (λ n. MayMake g.N.BootName.table c.self.inside.past n Unlock) (sym c.requires.number)
    (may_unlock g.N.BootName.table (machine_of c.self.inside) c.args.cpu.now c.self.invariant.consistent holds shut))

pub invariant_of-self : goal.invariant_of-self
invariant_of-self g c =
    let holds = holds_here g.N.BootName.table (machine_of c.self.inside) _ c.self.view_is c.args.cpu.now c.requires.holds in
    let unlocks = subst (λ (t : KnownTable). Unlocks t c.self.inside.past c.unlock.new.zone c.unlock.new.cpu.past) c.args.tables.now.words_are c.unlock.ensures.run in
    sound_then g.N.BootName.table c.self.inside c.self.invariant c.unlock.new.zone Unheld
    (unlocked_found g.N.BootName.table (machine_of c.self.inside) c.args.cpu.now c.unlock.new.zone c.unlock.new.cpu holds unlocks)

pub returns-clause-rests : goal.returns-clause-rests
returns-clause-rests g c =
    let unlocks = subst (λ (t : KnownTable). Unlocks t c.self.inside.past c.unlock.new.zone c.unlock.new.cpu.past) c.args.tables.now.words_are c.unlock.ensures.run in
    record { past_is = unlocks.zone_is; free = unlocks.free }

pub returns-clause-knows : goal.returns-clause-knows
returns-clause-knows g c =
    let holds = holds_here g.N.BootName.table (machine_of c.self.inside) _ c.self.view_is c.args.cpu.now c.requires.holds in
    let unlocks = subst (λ (t : KnownTable). Unlocks t c.self.inside.past c.unlock.new.zone c.unlock.new.cpu.past) c.args.tables.now.words_are c.unlock.ensures.run in
    unlocked_knows g.N.BootName.table (machine_of c.self.inside) c.args.cpu.now c.unlock.new.zone c.unlock.new.cpu holds unlocks
    (subst (λ (t : KnownTable). IsAwayCpu t c.unlock.new.cpu) c.args.tables.now.words_are c.unlock.ensures.cpu)

pub returns-clause-run : goal.returns-clause-run
returns-clause-run g c =
    let unlocks = subst (λ (t : KnownTable). Unlocks t c.self.inside.past c.unlock.new.zone c.unlock.new.cpu.past) c.args.tables.now.words_are c.unlock.ensures.run in
    subst (λ (k : KnownMachine). Unlocks g.N.BootName.table k.run.past c.unlock.new.zone c.unlock.new.cpu.past) c.self.view_is unlocks

pub returns-clause-last : goal.returns-clause-last
returns-clause-last g c =
    let table = g.N.BootName.table in
    let cpu = c.unlock.new.cpu in
    let holds = holds_here table (machine_of c.self.inside) _ c.self.view_is c.args.cpu.now c.requires.holds in
    let unlocks = subst (λ (t : KnownTable). Unlocks t c.self.inside.past c.unlock.new.zone cpu.past) c.args.tables.now.words_are c.unlock.ensures.run in
    let knows = unlocked_knows table (machine_of c.self.inside) c.args.cpu.now c.unlock.new.zone cpu holds unlocks
    (subst (λ (t : KnownTable). IsAwayCpu t cpu) c.args.tables.now.words_are c.unlock.ensures.cpu) in
    subst (λ (t : KnownTable). cpu.last ≡ stock_in ((state_left t cpu).parts cpu.number)) c.args.tables.now.words_are c.unlock.ensures.last
    ∙ ap (λ n. stock_in ((state_left table cpu).parts n)) knows.number
    ∙ ap (λ (r : Run). stock_in ((state_of (zone_of_boot table) r).parts c.args.cpu.now.number)) (sym unlocks.same)
