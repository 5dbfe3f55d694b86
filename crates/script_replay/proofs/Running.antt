-- The place of `go`. Serves `run_lines`.
use Rattle.std.proofs.Common.{ℕ, ◌+◌, ◌≤◌, List, [], ◌∷◌, length, arith}
use Rattle.script_lines.specs.declared.line.Line.{Line}
use Rattle.script_lines.specs.declared.line.Line.TheVariants.{Go, At}
use Rattle.script_replay.specs.Runs.{go_or, lines_before_go}

-- `go` isn't after the last line
go_within : (place : ℕ) (lines : List Line) → go_or 0 place lines ≤ place + length lines
go_within place [] = omega arith
go_within place (Go ∷ lines) = omega arith
go_within place (At number cpu command ∷ lines) = let rest = go_within (place + 1) lines in omega (arith, rest)

pub go_least : (lines : List Line) → lines_before_go lines ≤ length lines
go_least lines = let within = go_within 0 lines in omega (arith, within)
