-- Serves `read`: the text is what the charges after the visit give for the outcome.
use Rattle.std.proofs.Common.{◌∙◌, ap, sym, subst}
use Rattle.group_charge.specs.Charges.{Ledger}
use Rattle.mem_system.specs.Outcomes.{shown_text}
use Rattle.mem_system.specs.declared.text_command.TextCommand.TheVariants as cmd
use Rattle.mem_system.specs.declared.outcome.Outcome.{Outcome}
use Rattle.mem_system.specs.declared.outcome.Outcome.TheVariants as outcome
use Rattle.mem_system.specs.{HasItsGroups, IsShownText, ServesText, locked_state}
use Rattle.zone_threads.specs.{ShowsText}
use Rattle.zone_threads.proofs.Visited.{serves_behind}
use Rattle.zone_threads.proofs.behind.Behind.read.Goals as goal

pub returns-in-Refused : goal.returns-in-Refused
returns-in-Refused g c =
    let t = g.N.BootName.table in
    let asked = cmd.Read c.args.asked.now.path c.args.asked.now.file in
    let read = c.serve_text-outcome in
    serves_behind t (ServesText t asked (outcome.Refused c.in-Refused.fault)) _ _ _ _ _ c.self.view_is
    (record { quiet = c.prove_quiet.ensures.quiet; consistent = c.prove_quiet.ensures.consistent; charges = c.prove_quiet.ensures.charges })
    (subst (λ (o : Outcome). ServesText t asked o (locked_state c.self.inside.locked c.args.cpu.now) (locked_state read.new.locked read.new.cpu)) c.in-Refused.is read.ensures.served)
    (record { quiet = c.prove_quiet-2.ensures.quiet; consistent = c.prove_quiet-2.ensures.consistent; charges = c.prove_quiet-2.ensures.charges })

pub returns-in-Stat : goal.returns-in-Stat
returns-in-Stat g c =
    let t = g.N.BootName.table in
    let read = c.serve_text-outcome in
    serves_behind t (ShowsText t c.args.asked.now c.stat_text.result) _ _ _ _ _ c.self.view_is
    (record { quiet = c.prove_quiet.ensures.quiet; consistent = c.prove_quiet.ensures.consistent; charges = c.prove_quiet.ensures.charges })
    (record {
      outcome = read.result;
      serves = read.ensures.served;
      is_text = subst (λ (o : Outcome). IsShownText read.new.locked.machine.ledger o c.stat_text.result) (sym c.in-Stat.is) c.stat_text.ensures;
    })
    (record { quiet = c.prove_quiet-2.ensures.quiet; consistent = c.prove_quiet-2.ensures.consistent; charges = c.prove_quiet-2.ensures.charges })

pub shown_text-requires : goal.shown_text-requires
shown_text-requires g c =
    let read = c.serve_text-outcome in
    subst (λ (l : Ledger). HasItsGroups l (outcome.Text c.in-Text.group c.in-Text.file)) (sym c.charges.ensures)
    (subst (HasItsGroups read.new.locked.machine.ledger) c.in-Text.is read.ensures.groups)

pub returns : goal.returns
returns g c =
    let t = g.N.BootName.table in
    let read = c.serve_text-outcome in
    let text = c.shown_text.result in
    let is = c.shown_text.ensures ∙ ap (λ (l : Ledger). shown_text l c.in-Text.group c.in-Text.file) c.charges.ensures in
    serves_behind t (ShowsText t c.args.asked.now text) _ _ _ _ _ c.self.view_is
    (record { quiet = c.prove_quiet.ensures.quiet; consistent = c.prove_quiet.ensures.consistent; charges = c.prove_quiet.ensures.charges })
    (record {
      outcome = read.result;
      serves = read.ensures.served;
      is_text = subst (λ (o : Outcome). IsShownText read.new.locked.machine.ledger o text) (sym c.in-Text.is) is;
    })
    (record { quiet = c.prove_quiet-2.ensures.quiet; consistent = c.prove_quiet-2.ensures.consistent; charges = c.prove_quiet-2.ensures.charges })
