use Rattle.mem_alloc.proofs.Killing.{KillsSoFar, count_alive}
use Rattle.mem_alloc.proofs.kills.kill_for.Given as goal

abbrev pub invariant-kills : goal.invariant-kills
invariant-kills g l = KillsSoFar l.requester g.N.BootName.table l.limited l.pages l.fn.machine l.machine

abbrev pub decreases-kills : goal.decreases-kills
decreases-kills g l = count_alive l.machine
