use Rattle.std.proofs.Common.{◌+◌, ◌-◌, ◌<◌, ◌≤◌, length, take}
use Rattle.script_lint.specs.Lines.{GoesOn, IsGoodText}
use Rattle.script_lint.proofs.line.stuck_at.Given as goal

-- up to the one place the text goes on, and up to the other it doesn't, if that is in the text
abbrev pub invariant-loop-right : goal.invariant-loop-right
invariant-loop-right l =
    (l.right < l.wrong) × (l.wrong ≤ length l.text + 1) × GoesOn (IsGoodText l.sizes l.had_go) (take l.right l.text)
    × (l.wrong ≤ length l.text → ¬ GoesOn (IsGoodText l.sizes l.had_go) (take l.wrong l.text))

abbrev pub decreases-loop-right : goal.decreases-loop-right
decreases-loop-right l = l.wrong - l.right
