-- What a call's list of steps means among the steps of other CPUs.
use Rattle.std.specs.Prelude.{◌≡◌, ℕ, ◌++◌}
use Rattle.step_rules.specs.{Run, ShowsLocal, own_steps, IsInterleaved}
use Rattle.boot_words.specs.{zone_of_boot, KnownTable}
use Rattle.mem_machine.specs.Local.{lock_holder, local_of, Makes}
use Rattle.mem_machine.specs.Machines.{KnownMachine}

-- the run is legal, the machine's holder holds the lock after it, and sees then what it sees by the machine's past
abbrev pub Shows : KnownTable → Run → KnownMachine → Type 0
Shows table run now = ShowsLocal (zone_of_boot table) run (lock_holder now) (local_of table now)

-- `mixed` may follow the run. Its steps of this CPU and of the zone's seat are `steps`, in this order. Each of those
-- has the answer that the references and stocks of all seats decide at that place, and each other step is allowed at
-- its place.
pub record IsInterleaving (table : KnownTable) (run : Run) (cpu : ℕ) (steps mixed : Run) : Type 0 where
  pub own : own_steps cpu mixed ≡ steps
  pub follows : IsInterleaved (zone_of_boot table) run cpu mixed

-- Suppose that a run shows a CPU the machine, and that a call makes these steps. Mix in any steps that other CPUs may
-- make. Then the longer run is legal, and shows the CPU the machine that the call left.
abbrev pub CallsInterleave : Type 0
CallsInterleave = (table : KnownTable) (run steps mixed : Run) (before after : KnownMachine)
    → Shows table run before → Makes table before steps after
    → IsInterleaving table run (lock_holder before) steps mixed → Shows table (run ++ mixed) after
