-- The lines before `go`, and those from it on.
use Rattle.std.specs.Prelude.{◌≡◌, ℕ, ◌+◌, false, List, [], ◌∷◌, ◌++◌, take, drop}
use Rattle.mem_system.specs.{CpuInRun, KnownSystem}
use Rattle.step_rules.specs.After.{Run}
use Rattle.script_lines.specs.declared.line.Line.{Line}
use Rattle.script_lines.specs.declared.line.Line.TheVariants.{Go, At}
use Rattle.script_replay.specs.Visits.{VisitsAll}
use Rattle.script_replay.specs.Threads.{AreAllAnswers, workers_from}

-- the place of the first `go`, if the lines begin at `place`; `last` if there is no `go`
abbrev pub go_or : ℕ → ℕ → List Line → ℕ
go_or last place [] = last
go_or last place (Go ∷ lines) = place
go_or last place (At number cpu command ∷ lines) = go_or last (place + 1) lines

-- how many lines precede `go`; 0 if there is no `go`
abbrev pub lines_before_go : List Line → ℕ
lines_before_go lines = go_or 0 0 lines

-- The lines before `go` are answered one after another. Then a worker for each part, as it was left, answers those
-- from `go` on. The answers of the early lines come first. The workers left these CPUs, and made these steps.
pub record RunsLines (system : KnownSystem) (lines : List Line) (before after : List CpuInRun) (told : List Run)
    (text : List ℕ) : Type 0 where
  pub early : List ℕ
  pub later : List ℕ
  pub parts : List CpuInRun
  pub visits : VisitsAll system (take (lines_before_go lines) lines) before parts early
  pub are_answers : AreAllAnswers system (workers_from 1 parts (drop (lines_before_go lines) lines) false) after told
      later
  pub text_is : text ≡ early ++ later
