-- The answers of one thread for each CPU.
use Rattle.std.specs.Prelude.{◌≡◌, ℕ, ◌+◌, Bool, List, [], ◌∷◌, ◌++◌, codes}
use Rattle.std.specs.Fmt.{decimal}
use Rattle.mem_system.specs.{CpuInRun, KnownSystem}
use Rattle.step_rules.specs.After.{Run}
use Rattle.script_lines.specs.declared.line.Line.{Line}
use Rattle.script_replay.specs.CpuLines.{KnownWorker, ServesOwn, worker}

-- a worker for each of these parts, whose CPUs are numbered from this number on
abbrev pub workers_from : ℕ → List CpuInRun → List Line → (is_numbered : Bool) → List KnownWorker
workers_from cpu_number [] lines is_numbered = []
workers_from cpu_number (cpu ∷ cpus) lines is_numbered =
    worker cpu_number cpu lines is_numbered ∷ workers_from (cpu_number + 1) cpus lines is_numbered

-- the line that heads the answers of a CPU
abbrev pub heading : ℕ → List ℕ
heading cpu_number = codes "cpu " ++ decimal cpu_number ++ codes "\n"

-- For each worker a heading, followed by the answers of its own lines. Each left this CPU, and made these steps.
abbrev pub AreAllAnswers : KnownSystem → List KnownWorker → (after : List CpuInRun) (told : List Run) (text : List ℕ)
    → Type 0
AreAllAnswers system [] [] [] text = text ≡ []
AreAllAnswers system (worker ∷ workers) (cpu ∷ cpus) (steps ∷ told) text =
    (own : List ℕ) × (others : List ℕ) × ServesOwn system worker cpu steps own
    × AreAllAnswers system workers cpus told others × (text ≡ (heading worker.cpu_number ++ own) ++ others)
AreAllAnswers system workers cpus told text = ⊥
