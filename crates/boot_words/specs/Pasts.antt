-- What contracts see of a seat's pasts, and how they grow.
use Rattle.std.specs.Prelude.{[], ◌≡◌, ℕ, ◌≤◌, Bool, true, false, List, ◌∷◌}
use Rattle.atomic_table.specs.Seated.{TableId}
use Rattle.frame_word.specs.declared.answers.Get.{Get}
use Rattle.frame_word.specs.declared.answers.Get.TheVariants as gets
use Rattle.frame_word.specs.declared.answers.Put.{Put}
use Rattle.frame_word.specs.declared.answers.Put.TheVariants as puts
use Rattle.step_rules.specs.declared.phase.Hold.TheVariants.{HeldBy, Unheld}
use Rattle.step_rules.specs.declared.step.Action.{Action}
use Rattle.step_rules.specs.declared.step.Action.TheVariants.{Lock, Unlock}
use Rattle.step_rules.specs.declared.step.Answer.{Answer}
use Rattle.step_rules.specs.declared.step.Answer.TheVariants.{Done, Full, Held, Last, Left, Missed, Zero}
use Rattle.step_rules.specs.State.{State}
use Rattle.step_rules.specs.{is_legal, after, state_of, IsLegalRun}
use Rattle.boot_words.specs.Hidden.{hide}
use Rattle.boot_words.specs.Sight.{HasSameLists}
use Rattle.boot_words.specs.declared.past.Past.{Past}
use Rattle.boot_words.specs.Runs.{no_past, GrewBy}
use Rattle.boot_words.specs.Seats.{zone_of_boot}
use Rattle.boot_words.specs.Held.{HoldsLock, local_seen}
use Rattle.boot_words.specs.Locks.{LeavesFree}
use Rattle.boot_words.specs.Growth.{SeesMore}
use Rattle.boot_words.specs.Tables.{KnownTable}

-- a seat's pasts: its own, or the zone's and then that of the CPU that holds the lock, or none while the zone's has it
pub record KnownPasts : Type 0 where
  pub table : TableId
  pub pasts : List Past

-- the first past; without one, that of number 0 without steps
abbrev pub first_past : List Past → Past
first_past [] = no_past 0
first_past (p ∷ pasts) = p

-- the past of a seat that has one
abbrev pub own_past : KnownPasts → Past
own_past s = first_past s.pasts

-- the seat has the past of one of this table's CPUs, a legal run
pub record IsCpuPast (t : KnownTable) (s : KnownPasts) : Type 0 where
  pub table_is : s.table ≡ t.table
  pub alone : s.pasts ≡ own_past s ∷ []
  pub low : 1 ≤ (own_past s).number
  pub high : (own_past s).number ≤ t.cpus
  pub legal : IsLegalRun (zone_of_boot t) (own_past s).seen

-- the step is legal at the CPU's own last step
abbrev pub MayDo : KnownTable → KnownPasts → Action → Type 0
MayDo t s action = is_legal (state_of (zone_of_boot t) (own_past s).seen) (own_past s).number action ≡ true

-- the answer of the run's step
abbrev pub put_said : Put → Answer
put_said (puts.Left n) = Left n
put_said puts.Last = Last

-- the answer of the run's step; a race is none
abbrev pub get_said : Get → Answer
get_said gets.Held = Held
get_said gets.Zero = Zero
get_said gets.Full = Full
get_said (gets.Raced n) = Held

-- ---- under the lock

-- the second past; without one, that of number 0 without steps
abbrev pub second_past : List Past → Past
second_past [] = no_past 0
second_past (p ∷ pasts) = first_past pasts

-- the past of the CPU that holds the lock
abbrev pub cpu_past : KnownPasts → Past
cpu_past s = second_past s.pasts

-- what the lock's holder sees
abbrev pub local_by_pasts : KnownTable → KnownPasts → State
local_by_pasts t s = local_seen (zone_of_boot t) (cpu_past s)

-- the seat has the zone's past and that of the CPU that holds the lock
pub record IsHeld (t : KnownTable) (s : KnownPasts) : Type 0 where
  pub table_is : s.table ≡ t.table
  pub both : s.pasts ≡ own_past s ∷ cpu_past s ∷ []
  pub holds : HoldsLock (zone_of_boot t) (own_past s) (cpu_past s) (local_by_pasts t s)

-- the step is legal in what the lock's holder sees
abbrev pub MayMake : KnownTable → KnownPasts → ℕ → Action → Type 0
MayMake t s seat action = is_legal (local_by_pasts t s) seat action ≡ true

-- the step was made under the lock, with this answer
pub record MakesStep (t : KnownTable) (s : KnownPasts) (seat : ℕ) (action : Action) (answer : Answer) (s' : KnownPasts)
    : Type 0 where
  pub zone_grew : GrewBy (own_past s) (record { seat = seat; action = action }) answer (own_past s')
  pub cpu_grew : GrewBy (cpu_past s) (record { seat = seat; action = action }) answer (cpu_past s')
  pub held : IsHeld t s'
  pub local_is : local_by_pasts t s' ≡ after (local_by_pasts t s) seat action answer

-- the seat is that of the CPU that holds the lock, by its number
abbrev pub IsHolder : KnownPasts → ℕ → Type 0
IsHolder s number = number ≡ (cpu_past s).number

-- the answer of the run's step
abbrev pub freeze_said : Bool → Answer
freeze_said true = Done
freeze_said false = Missed

-- the seat has the zone's past alone, a legal run
pub record IsZonePast (t : KnownTable) (s : KnownPasts) : Type 0 where
  pub table_is : s.table ≡ t.table
  pub alone : s.pasts ≡ own_past s ∷ []
  pub zone_is : (own_past s).number ≡ 0
  pub legal : IsLegalRun (zone_of_boot t) (own_past s).seen

-- A CPU has taken the lock: the zone's seat has its past too. Hidden parts apart, it finds what the zone's past left,
-- and its own lists and references are those that its own past left.
pub record Locks (t : KnownTable) (zone cpu zone' : KnownPasts) : Type 0 where
  pub zone_grew : GrewBy (own_past zone) (record { seat = (own_past cpu).number; action = Lock }) Done (own_past zone')
  pub cpu_grew : GrewBy (own_past cpu) (record { seat = (own_past cpu).number; action = Lock }) Done (cpu_past zone')
  pub held : IsHeld t zone'
  pub found : hide (state_of (zone_of_boot t) (own_past zone').seen)
      ≡ record (hide (state_of (zone_of_boot t) (own_past zone).seen)) { hold = HeldBy (own_past cpu).number }
  pub own : HasSameLists (own_past cpu).number (state_of (zone_of_boot t) (own_past cpu).seen)
      (state_of (zone_of_boot t) (cpu_past zone').seen)

-- The CPU has released the lock: each seat has its own past. The lock is free by the zone's, which leaves what the CPU
-- saw.
pub record Unlocks (t : KnownTable) (held zone cpu : KnownPasts) : Type 0 where
  pub zone_grew : GrewBy (own_past held) (record { seat = (cpu_past held).number; action = Unlock }) Done
      (own_past zone)
  pub cpu_grew : GrewBy (cpu_past held) (record { seat = (cpu_past held).number; action = Unlock }) Done (own_past cpu)
  pub zone_is : IsZonePast t zone
  pub cpu_is : IsCpuPast t cpu
  pub same : (own_past zone).seen ≡ (own_past cpu).seen
  pub free : LeavesFree (zone_of_boot t) (own_past zone)
  pub left : hide (state_of (zone_of_boot t) (own_past zone).seen)
      ≡ hide (record (local_by_pasts t held) { hold = Unheld })

-- A CPU, which doesn't hold the lock, and the zone, by whose past the lock is free, now see the same run: all that either
-- saw, and perhaps more steps of others. Nothing of the two has changed otherwise: what the zone's past left if every CPU's
-- own part is hidden, and the CPU's own part.
pub record Meets (t : KnownTable) (zone cpu zone' cpu' : KnownPasts) : Type 0 where
  pub zone_is : IsZonePast t zone'
  pub cpu_is : IsCpuPast t cpu'
  pub zone_sees : SeesMore (own_past zone) (own_past zone')
  pub cpu_sees : SeesMore (own_past cpu) (own_past cpu')
  pub same : (own_past zone').seen ≡ (own_past cpu').seen
  pub free : LeavesFree (zone_of_boot t) (own_past zone')
  pub left : hide (state_of (zone_of_boot t) (own_past zone').seen)
      ≡ hide (state_of (zone_of_boot t) (own_past zone).seen)
  pub own : HasSameLists (own_past cpu).number (state_of (zone_of_boot t) (own_past cpu).seen)
      (state_of (zone_of_boot t) (own_past cpu').seen)
