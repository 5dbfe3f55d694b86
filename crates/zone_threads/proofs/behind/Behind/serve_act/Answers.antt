-- Serves `serve_act`: it is done for the group that was found.
use Rattle.std.proofs.Common.{ℕ, subst}
use Rattle.group_charge.specs.Charges.{Ledger}
use Rattle.host_memory.specs.{IsMissingIn}
use Rattle.mem_system.specs.{locked_state}
use Rattle.zone_threads.specs.Calling.{ServesAct}
use Rattle.zone_threads.proofs.Visited.{seen_behind, serves_behind}
use Rattle.zone_threads.proofs.behind.Behind.serve_act.Goals as goal

pub returns-clause-served : goal.returns-clause-served
returns-clause-served g c =
    let t = g.N.BootName.table in
    let done = c.serve_for-outcome in
    serves_behind t (ServesAct t c.args.group c.args.act done.result) _ _ _ _ _ c.self.view_is
    (record { quiet = c.prove_quiet.ensures.quiet; consistent = c.prove_quiet.ensures.consistent; charges = c.prove_quiet.ensures.charges })
    (subst (λ (k : ℕ). ServesAct t k c.args.act done.result (locked_state c.self.inside.locked c.args.cpu.now) (locked_state done.new.locked done.new.cpu))
    c.in-Some.ensures.found.0 done.ensures.served)
    (record { quiet = c.prove_quiet-2.ensures.quiet; consistent = c.prove_quiet-2.ensures.consistent; charges = c.prove_quiet-2.ensures.charges })

pub returns-in_default-clause-none : goal.returns-in_default-clause-none
returns-in_default-clause-none g c =
    seen_behind g.N.BootName.table (λ (ledger : Ledger). IsMissingIn ledger.groups c.args.group) _ _ _ _ _ c.self.view_is
    (subst (λ (ledger : Ledger). IsMissingIn ledger.groups c.args.group) c.charges.ensures c.in_default.ensures.none)
    c.meet.ensures.locked
    (record { quiet = c.prove_quiet-in_default.ensures.quiet; consistent = c.prove_quiet-in_default.ensures.consistent; charges = c.prove_quiet-in_default.ensures.charges })
    c.meet.ensures.part c.meet.ensures.last c.meet.ensures.meets
