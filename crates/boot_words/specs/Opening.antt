-- The seats of a new table.
use Rattle.std.specs.Prelude.{[], ℕ, zero, suc, ◌+◌, List, ◌∷◌}
use Rattle.atomic_table.specs.Seated.{TableId}
use Rattle.stock_word.specs.declared.stock.Stock.TheVariants.{NoGroup}
use Rattle.boot_words.specs.Pasts.{KnownPasts}
use Rattle.boot_words.specs.Runs.{no_past}
use Rattle.boot_words.specs.Cpus.{KnownCpuSeat}

-- the seat of this number at first: no step was made
abbrev pub seat_at_first : TableId → ℕ → KnownPasts
seat_at_first table number = record { table = table; pasts = no_past number ∷ [] }

-- the seat of this CPU at first: it saw no stock yet
abbrev pub cpu_at_first : TableId → ℕ → KnownCpuSeat
cpu_at_first table cpu = record { past = seat_at_first table cpu; number = cpu; last = NoGroup }

-- the seats of n CPUs at first, from this number on
abbrev pub cpus_at_first : TableId → ℕ → ℕ → List KnownCpuSeat
cpus_at_first table cpu zero = []
cpus_at_first table cpu (suc n) = cpu_at_first table cpu ∷ cpus_at_first table (cpu + 1) n
