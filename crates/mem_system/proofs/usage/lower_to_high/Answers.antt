use Rattle.std.proofs.Common.{ℕ, ap, sym, subst, ◌∙◌, arith}
use Rattle.group_tree.specs.Groups.{has_group}
use Rattle.group_charge.specs.declared.note.Note.TheVariants.{High}
use Rattle.boot_words.specs.Pasts.{IsHeld}
use Rattle.mem_machine.specs.Machines.{KnownMachine, with_note}
use Rattle.mem_machine.proofs.Made.{visit_same}
use Rattle.mem_system.proofs.Keeping.{high_above, high_none, high_within}
use Rattle.mem_system.proofs.usage.lower_to_high.Goals as goal

pub lower_usage-requires-clause-there : goal.lower_usage-requires-clause-there
lower_usage-requires-clause-there g c = ap (λ (x : KnownMachine). has_group x.ledger.groups c.args.group) c.note.ensures ∙ c.requires.there

pub lower_usage-requires-clause-held : goal.lower_usage-requires-clause-held
lower_usage-requires-clause-held g c =
    subst (λ (x : KnownMachine). IsHeld g.N.BootName.table x.run.past) (sym c.note.ensures) c.requires.held

pub returns-then-high-usage-clause-lowers : goal.returns-then-high-usage-clause-lowers
returns-then-high-usage-clause-lowers g c =
    let over = c.if-high-usage.true in
    let same = c.current-usage.ensures in
    high_above g.N.BootName.table c.args.group c.in-Some.high c.args.high c.args.machine.now c.in-Some.is c.note.new.self c.lower_usage.new.machine
    (omega (arith, over, same))
    (c.note.ensures ∙ ap (λ (u : ℕ). with_note c.args.machine.now (High c.args.group c.in-Some.high u 0)) same)
    c.lower_usage.ensures.lowers

pub returns-else-high-usage-clause-lowers : goal.returns-else-high-usage-clause-lowers
returns-else-high-usage-clause-lowers g c =
    let within = c.if-high-usage.false in
    let same = c.current-usage.ensures in
    high_within g.N.BootName.table c.args.group c.in-Some.high c.args.high c.args.machine.now c.in-Some.is (omega (arith, within, same))

pub returns-then-high-usage-clause-visit : goal.returns-then-high-usage-clause-visit
returns-then-high-usage-clause-visit g c = λ y v.
    c.lower_usage.ensures.visit y
    (visit_same g.N.BootName.table c.args.machine.now c.note.new.self y (ap (λ (x : KnownMachine). x.run) c.note.ensures) v)

pub returns-in_default-clause-lowers : goal.returns-in_default-clause-lowers
returns-in_default-clause-lowers g c =
    high_none g.N.BootName.table c.args.group c.args.high c.args.machine.now c.in_default.is
