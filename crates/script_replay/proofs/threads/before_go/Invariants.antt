use Rattle.std.proofs.Common.{◌≡◌, drop}
use Rattle.script_replay.specs.Runs.{go_or, lines_before_go}
use Rattle.script_replay.proofs.threads.before_go.Given as goal

abbrev pub invariant-loop-line : goal.invariant-loop-line
invariant-loop-line l =
    (l.place ≡ l.line-index) × (lines_before_go l.lines ≡ go_or 0 l.place (drop l.line-index l.lines))
