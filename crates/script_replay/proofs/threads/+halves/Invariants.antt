use Rattle.std.proofs.Common.{◌+◌, ◌-◌, ◌*◌, length}
use Rattle.script_replay.proofs.threads.+halves.Given as goal

abbrev pub decreases-run_from : goal.decreases-run_from
decreases-run_from g l = 4 * length l.cpus.now

abbrev pub decreases-run_both : goal.decreases-run_both
decreases-run_both g l = 4 * (length l.front.now + length l.back.now) - 1

abbrev pub decreases-run_both-run_front : goal.decreases-run_both-run_front
decreases-run_both-run_front g l = 4 * length l.front.now + 1

abbrev pub decreases-run_both-run_back : goal.decreases-run_both-run_back
decreases-run_both-run_back g l = 4 * length l.back.now + 1
