-- The notes of a kill.
use Rattle.std.specs.Prelude.{◌≡◌, ℕ}
use Rattle.mem_machine.specs.Machines.{KnownMachine, with_note}
use Rattle.mem_reclaim.specs.Victim.{IsNext, victim_note}

-- the note of who is the victim for the group, and who is next
pub record NotesVictim (group victim : ℕ) (before after : KnownMachine) : Type 0 where
  pub next : ℕ
  pub follows : IsNext before group victim next
  pub machine : after ≡ with_note before (victim_note before group victim next)
