-- Serves the contract of `serve_text`: what the command stands for was served, or the CPU was settled.
use Rattle.std.proofs.Common.{◌≡◌, refl, subst, inl, inr}
use Rattle.group_charge.specs.Charges.{Ledger}
use Rattle.mem_system.specs.declared.command.LockedCommand.TheVariants.{Settle}
use Rattle.mem_system.specs.TextCommands.{StandsFor, StandsForNone}
use Rattle.mem_system.proofs.Standing.{names_exist}
use Rattle.mem_system.proofs.visits.serve_text.Goals as goal

pub serve_outcome-requires : goal.serve_outcome-requires
serve_outcome-requires g c =
    let stands = subst (λ (l : Ledger). StandsFor l.groups c.args.command.now c.in-Ok.cmd) c.charges.ensures c.in-Ok.ensures in
    names_exist g.N.BootName.table c.args.locked.now.machine.ledger.groups c.args.command.now c.in-Ok.cmd c.requires stands

pub returns-in-Ok-clause-served : goal.returns-in-Ok-clause-served
returns-in-Ok-clause-served g c =
    let stands = subst (λ (l : Ledger). StandsFor l.groups c.args.command.now c.in-Ok.cmd) c.charges.ensures c.in-Ok.ensures in
    record {
      served = c.in-Ok.cmd;
      given = c.serve_outcome.result;
      visit = c.serve_outcome.ensures.served;
      stands = inl (stands, refl);
      settled = c.serve_outcome.ensures.settled;
      groups = c.serve_outcome.ensures.groups;
    }

pub returns-in-Err-clause-served : goal.returns-in-Err-clause-served
returns-in-Err-clause-served g c =
    let none = subst (λ (l : Ledger). StandsForNone l.groups c.args.command.now c.in-Err.fault) c.charges.ensures c.in-Err.ensures in
    record {
      served = Settle;
      given = c.serve_outcome-done.result;
      visit = c.serve_outcome-done.ensures.served;
      stands = inr (none, refl);
      settled = c.serve_outcome-done.ensures.settled;
      groups = tt;
    }
