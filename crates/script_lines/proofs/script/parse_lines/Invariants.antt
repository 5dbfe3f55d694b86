use Rattle.std.proofs.Common.{◌≤◌, length}
use Rattle.script_lines.specs.Script.{texts_left, texts_of}
use Rattle.script_lines.proofs.Progress.{IsLeft, IsReadTo}
use Rattle.script_lines.proofs.script.parse_lines.Given as goal

abbrev pub invariant-loop-rest : goal.invariant-loop-rest
invariant-loop-rest l = IsReadTo l.sizes l.input l.number l.had_go l.lines.items × IsLeft l.input l.number l.rest × (l.number ≤ length (texts_of l.input))

abbrev pub decreases-loop-rest : goal.decreases-loop-rest
decreases-loop-rest l = length (texts_left l.rest)
