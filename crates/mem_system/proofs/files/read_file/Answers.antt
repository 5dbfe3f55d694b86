use Rattle.std.proofs.Common.{◌≡◌, ◌≢◌, ℕ, IsOk, refl, sym, ap, ◌∙◌}
use Rattle.control_files.specs.Files.{file_text}
use Rattle.control_files.specs.declared.file.File.{File}
use Rattle.control_files.specs.declared.file.File.TheVariants.{Current, Max, High, Low, Min, Peak, Events, EventsLocal, OomGroup, Reclaim, Stat}
use Rattle.mem_machine.specs.{KnownMachine}
use Rattle.mem_system.specs.declared.outcome.Outcome.TheVariants as outcome
use Rattle.mem_system.specs.{read_outcome}
use Rattle.mem_system.proofs.files.read_file.Goals as goal

-- each file but memory.stat and memory.reclaim shows its text in the ledger
by_ledger : (machine : KnownMachine) (group : ℕ) (file : File) → file ≢ Stat → file ≢ Reclaim
    → (outcome.Text group file ≡ read_outcome machine group file) × IsOk (file_text machine.ledger group file)
by_ledger machine group Current sums readable = (refl, refl)
by_ledger machine group Max sums readable = (refl, refl)
by_ledger machine group High sums readable = (refl, refl)
by_ledger machine group Low sums readable = (refl, refl)
by_ledger machine group Min sums readable = (refl, refl)
by_ledger machine group Peak sums readable = (refl, refl)
by_ledger machine group Events sums readable = (refl, refl)
by_ledger machine group EventsLocal sums readable = (refl, refl)
by_ledger machine group OomGroup sums readable = (refl, refl)
by_ledger machine group Reclaim sums readable = absurd (readable refl)
by_ledger machine group Stat sums readable = absurd (sums refl)

pub returns-in-Stat-clause-read : goal.returns-in-Stat-clause-read
returns-in-Stat-clause-read g c =
    ap outcome.Stat c.memory_stat.ensures.shown ∙ ap (read_outcome c.args.machine.now c.args.group) (sym c.in-Stat.is)

pub returns-in-Reclaim-clause-read : goal.returns-in-Reclaim-clause-read
returns-in-Reclaim-clause-read g c = ap (read_outcome c.args.machine.now c.args.group) (sym c.in-Reclaim.is)

pub returns-in_default : goal.returns-in_default
returns-in_default g c =
    let is = by_ledger c.args.machine.now c.args.group c.args.file c.in_default.not-Stat c.in_default.not-Reclaim in
    record { read = is.0; groups = (c.requires.there, c.requires.below_root, is.1) }
