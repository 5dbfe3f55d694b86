-- The end of a table.
use Rattle.std.specs.Prelude.{[], ◌≡◌, ℕ, ◌≤◌, ◌<◌, ◌++◌, nat_le, List, ◌∷◌}
use Rattle.stock_word.specs.Stock.{group_base}
use Rattle.step_rules.specs.{Zone, one_if, Run, state_of}
use Rattle.boot_words.specs.Pasts.{IsCpuPast}
use Rattle.boot_words.specs.Words.{IsRunOf}
use Rattle.boot_words.specs.declared.past.Past.{Past}
use Rattle.boot_words.specs.Rule.{sum_over, AllOf, words_in, BeginsRun, of_number}
use Rattle.boot_words.specs.Cpus.{KnownCpuSeat}
use Rattle.boot_words.specs.Tables.{KnownTable}

-- the seat has the past of one of the CPUs
abbrev pub HasCpuPast : KnownTable → KnownCpuSeat → Type 0
HasCpuPast t c = IsCpuPast t c.past

-- the pasts of all these seats
abbrev pub pasts_of_cpus : List KnownCpuSeat → List Past
pasts_of_cpus [] = []
pasts_of_cpus (c ∷ cpus) = c.past.pasts ++ pasts_of_cpus cpus

-- A table at its end, of which one seat has these pasts: there is one legal run whose state has just these words, and each
-- past is a beginning of it. No number has two.
pub record IsEndOfRun (zone : Zone) (words : List ℕ) (pasts : List Past) : Type 0 where
  pub run : Run
  pub is : IsRunOf zone (words_in zone words) run
  pub small : (cpu : ℕ) → ((state_of zone run).parts cpu).book < group_base
  pub begin : AllOf (BeginsRun zone run) pasts
  pub few : (number : ℕ) → sum_over (of_number number) pasts ≤ one_if (nat_le number zone.cpus)

-- The same of a table whose seats all were given back: the zone and each CPU have one past, and there is no other.
pub record IsClosedRun (zone : Zone) (words : List ℕ) (pasts : List Past) : Type 0 where
  pub end : IsEndOfRun zone words pasts
  pub one_past : (number : ℕ) → sum_over (of_number number) pasts ≡ one_if (nat_le number zone.cpus)
