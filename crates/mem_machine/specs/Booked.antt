-- The pages booked to the stocks of each group, with the sums that count them, and the group of each stock.
use Rattle.std.specs.Prelude.{◌≡◌, ℕ, ◌+◌, ◌<◌, ◌≤◌, Option, None, List, length}
use Rattle.std.specs.List.{slice_index_or}
use Rattle.step_rules.specs.State.{Part}
use Rattle.mem_machine.specs.Machines.{pages_booked}

-- for each of so many group numbers there is a sum: how many pages are booked to the stocks of that group; none are
-- booked to the stocks of a group beyond
pub record AreBooked (room cpus : ℕ) (parts : ℕ → Part) (sums : List ℕ) : Type 0 where
  pub size : length sums ≡ room
  pub each : (group : ℕ) → slice_index_or sums group 0 ≡ pages_booked cpus parts group

-- The list has the group of each CPU's stock: that of CPU 1 comes first. It has None for a stock that was never filled,
-- and beyond the last CPU.
pub record AreOwners (cpus : ℕ) (parts : ℕ → Part) (owners : List (Option ℕ)) : Type 0 where
  pub size : length owners ≡ 64
  pub few : cpus ≤ 64
  pub each : (place : ℕ) → place < cpus → slice_index_or owners place None ≡ (parts (place + 1)).stock.group
  pub beyond : (place : ℕ) → cpus ≤ place → slice_index_or owners place None ≡ None
