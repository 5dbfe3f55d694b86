use Rattle.std.proofs.Common.{◌≤◌, length, take}
use Rattle.script_lines.specs.Script.{texts_left, texts_of}
use Rattle.script_lines.proofs.Progress.{IsLeft}
use Rattle.script_lint.specs.Pasts.{KnowsPast}
use Rattle.script_lint.proofs.Refusing.{IsFoundTo}
use Rattle.script_lint.proofs.refused.find_refused.Given as goal

abbrev pub invariant-loop-rest : goal.invariant-loop-rest
invariant-loop-rest l =
    IsFoundTo l.sizes l.input l.number l.refused.items × IsLeft l.input l.number l.rest × (l.number ≤ length (texts_of l.input))
    × KnowsPast l.past (take l.number (texts_of l.input))

abbrev pub decreases-loop-rest : goal.decreases-loop-rest
decreases-loop-rest l = length (texts_left l.rest)
