-- Serves `read_pages`: what was read is of the accounts that lay behind the lock.
use Rattle.std.proofs.Common.{subst}
use Rattle.group_charge.specs.Charges.{Ledger}
use Rattle.zone_threads.specs.Calling.{SaysPages}
use Rattle.zone_threads.proofs.Visited.{seen_behind}
use Rattle.zone_threads.proofs.behind.Behind.read_pages.Goals as goal

pub returns : goal.returns
returns g c =
    let is_said = λ (ledger : Ledger). SaysPages ledger c.args.group c.args.which c.pages_read-answer.result in
    seen_behind g.N.BootName.table is_said _ _ _ _ _ c.self.view_is (subst is_said c.charges.ensures c.pages_read-answer.ensures)
    c.meet.ensures.locked
    (record { quiet = c.prove_quiet-2.ensures.quiet; consistent = c.prove_quiet-2.ensures.consistent; charges = c.prove_quiet-2.ensures.charges })
    c.meet.ensures.part c.meet.ensures.last c.meet.ensures.meets
