-- What the loop of `judge` keeps.
use Rattle.mem_core.specs.Shown.{state_shown}
use Rattle.mem_core.proofs.Checking.{Follows}
use Rattle.mem_core.proofs.check.judge.Given as goal

-- the steps so far are a legal run
abbrev pub invariant-loop-index : goal.invariant-loop-index
invariant-loop-index l = Follows (state_shown l.fn.checker).zone l.checker l.log l.index
