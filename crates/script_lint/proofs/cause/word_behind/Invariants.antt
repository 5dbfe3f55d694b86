use Rattle.std.proofs.Common.{◌≡◌}
use Rattle.script_lint.specs.Causes.{word_behind}
use Rattle.script_lint.proofs.cause.word_behind.Given as goal

-- the words that are still to be passed
abbrev pub invariant-loop-left : goal.invariant-loop-left
invariant-loop-left l = word_behind l.left l.rest ≡ word_behind l.spaces l.text

abbrev pub decreases-loop-left : goal.decreases-loop-left
decreases-loop-left l = l.left
