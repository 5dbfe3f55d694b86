-- What a CPU knows of its own part by its past.
use Rattle.std.specs.Prelude.{◌≡◌, ℕ}
use Rattle.step_rules.specs.State.{State, times}
use Rattle.boot_words.specs.Cpus.{IsAwayCpu, KnownCpuSeat, state_left}
use Rattle.boot_words.specs.Tables.{KnownTable}
use Rattle.cpu_part.specs.Cpus.{KnownCpuLists}

-- the state has the CPU's lists, and a reference of the CPU for each of its pins
pub record HasOwn (s : State) (c : KnownCpuLists) : Type 0 where
  pub list : (s.parts c.number).list ≡ c.list
  pub fresh : (s.parts c.number).fresh ≡ c.fresh
  pub back : (s.parts c.number).back ≡ c.back
  pub references : (f : ℕ) → s.references c.number f ≡ times f c.pins

-- The seat is this CPU's, which doesn't hold the lock. Its lists and pins are those that its past left; others' steps
-- since don't change them.
pub record KnowsItsPart (t : KnownTable) (seat : KnownCpuSeat) (c : KnownCpuLists) : Type 0 where
  pub is : IsAwayCpu t seat
  pub number : seat.number ≡ c.number
  pub own : HasOwn (state_left t seat) c
