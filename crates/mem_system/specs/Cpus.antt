-- What contracts see of a CPU, and how a visit goes on with its past and the zone's.
use Rattle.std.specs.Prelude.{◌≡◌, ℕ, List, [], ◌∷◌, ◌++◌, map}
use Rattle.step_rules.specs.declared.step.Action.TheVariants.{Lock, Unlock}
use Rattle.step_rules.specs.declared.step.Answer.TheVariants.{Done}
use Rattle.step_rules.specs.After.{Run, cpu_makes}
use Rattle.stock_word.specs.declared.stock.Stock.{Stock}
use Rattle.boot_words.specs.declared.past.Past.{Past}
use Rattle.boot_words.specs.{KnownPasts, own_past, GrewByAll, KnownCpuSeat, KnownTable}
use Rattle.cpu_part.specs.{KnownCpuLists, KnowsItsPart}

-- a CPU as callers have it: its part, its own past of the run, and the stock that it saw last
pub record CpuInRun : Type 0 where
  pub part : KnownCpuLists
  pub past : KnownPasts
  pub last : Stock

-- the CPU with this part and this seat
abbrev pub cpu_in_run : KnownCpuLists → KnownCpuSeat → CpuInRun
cpu_in_run part seat = record { part = part; past = seat.past; last = seat.last }

-- the CPU's seat
abbrev pub seat_of : CpuInRun → KnownCpuSeat
seat_of cpu = record { past = cpu.past; number = cpu.part.number; last = cpu.last }

-- the CPU knows its own part by its seat
abbrev pub KnowsItself : KnownTable → CpuInRun → Type 0
KnowsItself table cpu = KnowsItsPart table (seat_of cpu) cpu.part

-- the parts of the CPUs
abbrev pub parts_of : List CpuInRun → List KnownCpuLists
parts_of cpus = map (λ cpu. cpu.part) cpus

-- the CPUs' own pasts
abbrev pub pasts_of : List CpuInRun → List Past
pasts_of cpus = map (λ cpu. own_past cpu.past) cpus

-- the steps of a visit under the lock: the Lock, the steps of the visit itself, and the Unlock
abbrev pub between_locks : (cpu : ℕ) → Run → Run
between_locks cpu steps = cpu_makes cpu Lock Done ∷ (steps ++ cpu_makes cpu Unlock Done ∷ [])

-- A visit of the CPU with these steps, in the run: the zone's past and the CPU's past have grown by the Lock, these steps
-- and the Unlock. Both have seen the same run then. The CPU's past has its number.
pub record VisitsInRun (cpu : ℕ) (steps : Run) (zone past zone' past' : KnownPasts) : Type 0 where
  pub number : (own_past past).number ≡ cpu
  pub zone_grew : GrewByAll (own_past zone) (between_locks cpu steps) (own_past zone')
  pub cpu_grew : GrewByAll (own_past past) (between_locks cpu steps) (own_past past')
  pub same : (own_past zone').seen ≡ (own_past past').seen
