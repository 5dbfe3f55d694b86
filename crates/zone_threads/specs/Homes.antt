-- What a thread has of a zone, and how CPUs are taken and returned.
use Rattle.std.specs.Prelude.{◌≡◌, ◌≢◌, ◌≤◌, ◌<◌, ℕ, All, List, length, [], ◌∷◌, ◌++◌, Option, Some, None, IsSome}
use Rattle.std.specs.Global.{Box}
use Rattle.std.specs.List.{HoldsAt, swap_remove}
use Rattle.boot_words.specs.Tables.{KnownTable}
use Rattle.host_memory.specs.Cells.{KnownChange, KnownLoan}
use Rattle.zone_blocks.specs.declared.config.Config.{Config}
use Rattle.boot_words.specs.{Meets}
use Rattle.group_charge.specs.Charges.{Ledger}
use Rattle.mem_machine.specs.{with_past}
use Rattle.mem_system.specs.{CpuInRun, IsSound, KnownLocked, LockedState, PutsAndEnds, locked_state}
use Rattle.mem_system.specs.declared.end_with_pins.SystemEnd.{SystemEnd}
use Rattle.zone_threads.specs.declared.home.NotEntered.{NotEntered}
use Rattle.zone_threads.specs.declared.home.NotEntered.TheVariants as not_entered
use Rattle.zone_threads.specs.declared.home.NotLeft.{NotLeft}
use Rattle.zone_threads.specs.declared.home.NotLeft.TheVariants as not_left

-- what lies behind the lock: the machine with its sizes, the parked parts, and for how many there is room
pub record KnownBehind : Type 0 where
  pub locked : KnownLocked
  pub parked : List CpuInRun
  pub room : ℕ

-- what was taken out is what was found behind the lock, with these sizes
pub record IsTaken (sizes : Config) (found : Option (Box KnownBehind)) (taken : Box KnownBehind) : Type 0 where
  pub before : Box KnownBehind
  pub found_is : found ≡ Some before
  pub taken_is : taken.value ≡ record before.value { locked = record before.value.locked { sizes = sizes } }

-- the parts that are parked stay, and the room for them
pub record KeepsParked (before after : KnownBehind) : Type 0 where
  pub parked : after.parked ≡ before.parked
  pub room : after.room ≡ before.room

-- What a thread that has the lock took out from behind it, and what it put back.
abbrev pub LockedChange : Type 0
LockedChange = KnownChange (Box KnownBehind)

-- What a thread has of a zone: a CPU, if it took one, and the sizes of the zone's boot. `change` is what the thread took out
-- from behind the lock, and what it put back, in its last call that took the lock.
pub record KnownHome : Type 0 where
  pub cpu : Option CpuInRun
  pub sizes : Config
  pub change : Option LockedChange

-- the same, with this part parked too
abbrev pub parked_with : KnownBehind → CpuInRun → KnownBehind
parked_with behind cpu = record behind { parked = behind.parked ++ cpu ∷ [] }

-- there is no CPU
abbrev pub HasNoCpu : KnownHome → Type 0
HasNoCpu home = home.cpu ≡ None

-- the part of the CPU of this number isn't parked
abbrev pub IsNotParked : (number : ℕ) → KnownBehind → Type 0
IsNotParked number behind = All (λ cpu. cpu.part.number ≢ number) behind.parked

-- there is a CPU
abbrev pub HasCpu : KnownHome → Type 0
HasCpu home = IsSome home.cpu

-- there is a CPU before and after, and `does` leads from one to the other; all else stays
pub record OnCpu (does : (from to : CpuInRun) → Type 0) (before after : KnownHome) : Type 0 where
  pub from : CpuInRun
  pub to : CpuInRun
  pub sizes : after.sizes ≡ before.sizes
  pub change : after.change ≡ before.change
  pub was : before.cpu ≡ Some from
  pub is : after.cpu ≡ Some to
  pub done : does from to

-- A CPU was served with what lay behind the lock: `Does` leads from what was found to what was left, which are sound. The
-- parked CPUs stay.
pub record ServesBehind (table : KnownTable) (Does : (before after : LockedState) → Type 0) (found left : KnownBehind)
    (from to : CpuInRun) : Type 0 where
  pub sound_before : IsSound table found.locked
  pub served : Does (locked_state found.locked from) (locked_state left.locked to)
  pub sound_after : IsSound table left.locked
  pub parked : KeepsParked found left

-- `IsSo` holds of the groups' accounts behind the lock. The CPU made no step: it and the zone have now seen the same run, and
-- all else stays.
pub record SeesBehind (table : KnownTable) (IsSo : Ledger → Type 0) (found left : KnownBehind) (from to : CpuInRun)
    : Type 0 where
  pub so : IsSo found.locked.machine.ledger
  pub left_is : left ≡ record found {
    locked = record found.locked { machine = with_past found.locked.machine left.locked.machine.run.past };
  }
  pub sound : IsSound table left.locked
  pub part : to.part ≡ from.part
  pub last : to.last ≡ from.last
  pub meets : Meets table found.locked.machine.run.past from.past left.locked.machine.run.past to.past

-- There is a CPU before and after, and the home shows what was taken out from behind the lock, where it has the zone's sizes,
-- and what was put back: `Does` leads from one to the other.
pub record UnderLock (Does : (found left : KnownBehind) (from to : CpuInRun) → Type 0) (before after : KnownHome)
    : Type 0 where
  pub from : CpuInRun
  pub to : CpuInRun
  pub sizes : after.sizes ≡ before.sizes
  pub was : before.cpu ≡ Some from
  pub is : after.cpu ≡ Some to
  pub change : LockedChange
  pub change_is : after.change ≡ Some change
  pub taken : Box KnownBehind
  pub left : Box KnownBehind
  pub taken_is : IsTaken before.sizes change.found taken
  pub left_is : change.left ≡ Some left
  pub done : Does taken.value left.value from to

-- the zone has a CPU of this number
pub record IsCpu (cpus number : ℕ) : Type 0 where
  pub low : 1 ≤ number
  pub high : number ≤ cpus

-- this part was parked, and was taken out: the last one has its place now
pub record Unparks (cpu : CpuInRun) (found left : KnownBehind) : Type 0 where
  pub place : ℕ
  pub low : place < length found.parked
  pub is_there : HoldsAt (λ part. part ≡ cpu) found.parked place
  pub left_is : left ≡ record found { parked = swap_remove found.parked place cpu }

-- The home's CPU is the one of this number, just as it was parked, with its past: what was put back behind the lock is
-- what was taken out, without this part.
pub record HasCpuAsParked (number : ℕ) (home : KnownHome) : Type 0 where
  pub cpu : CpuInRun
  pub is : home.cpu ≡ Some cpu
  pub number_is : cpu.part.number ≡ number
  pub change : LockedChange
  pub change_is : home.change ≡ Some change
  pub found : Box KnownBehind
  pub left : Box KnownBehind
  pub found_is : change.found ≡ Some found
  pub left_is : change.left ≡ Some left
  pub unparks : Unparks cpu found.value left.value

-- the home had no CPU, and has the one of this number now, as it was parked
pub record TakesCpu (number : ℕ) (before after : KnownHome) : Type 0 where
  pub none : HasNoCpu before
  pub sizes : after.sizes ≡ before.sizes
  pub taken : HasCpuAsParked number after

-- the home had no CPU, the zone has one of this number, and nothing was done
pub record MissesCpu (cpus number : ℕ) (before after : KnownHome) : Type 0 where
  pub none : HasNoCpu before
  pub is_cpu : IsCpu cpus number
  pub stays : after ≡ before

-- The home had no CPU, the zone has one of this number, and its part isn't parked: what was taken out from behind the lock was
-- put back.
pub record FindsCpuOut (cpus number : ℕ) (before after : KnownHome) : Type 0 where
  pub none : HasNoCpu before
  pub is_cpu : IsCpu cpus number
  pub change : LockedChange
  pub shows : after ≡ record before { change = Some change }
  pub found : Box KnownBehind
  pub left : Box KnownBehind
  pub found_is : change.found ≡ Some found
  pub left_is : change.left ≡ Some left
  pub out : IsNotParked number found.value
  pub stays : left.value ≡ found.value

-- What is so, if no CPU was taken. It is looked at first whether the home has a CPU, and then whether the zone has the one
-- of this number.
abbrev pub IfNotEntered : (cpus number : ℕ) → (before : KnownHome) → NotEntered → (after : KnownHome) → Type 0
IfNotEntered cpus number before not_entered.NoCpu after =
    HasNoCpu before × (¬ IsCpu cpus number) × (after ≡ before)
IfNotEntered cpus number before not_entered.Out after = FindsCpuOut cpus number before after
IfNotEntered cpus number before not_entered.HasCpu after = HasCpu before × (after ≡ before)
IfNotEntered cpus number before not_entered.Busy after = MissesCpu cpus number before after

-- The home's CPU was parked: what was put back behind the lock is what was taken out, with this part.
pub record ParksCpu (before after : KnownHome) : Type 0 where
  pub cpu : CpuInRun
  pub sizes : after.sizes ≡ before.sizes
  pub was : before.cpu ≡ Some cpu
  pub none : HasNoCpu after
  pub change : LockedChange
  pub change_is : after.change ≡ Some change
  pub found : Box KnownBehind
  pub left : Box KnownBehind
  pub found_is : change.found ≡ Some found
  pub left_is : change.left ≡ Some left
  pub parked : left.value ≡ parked_with found.value cpu

-- what is so, if no CPU was returned
abbrev pub IfNotLeft : (before : KnownHome) → NotLeft → (after : KnownHome) → Type 0
IfNotLeft before not_left.NoCpu after = HasNoCpu before × (after ≡ before)
IfNotLeft before not_left.Busy after = HasCpu before × (after ≡ before)

-- A zone ended with what was taken out from behind its lock for it, the parts of the CPUs as they were parked: `held`
-- counts their pins.
pub record EndsParked (frames : KnownTable) (loan : KnownLoan (Box KnownBehind))
    (ended : SystemEnd) : Type 0 where
  pub found : Box KnownBehind
  pub found_is : loan.found ≡ Some found
  pub ends : PutsAndEnds frames found.value.locked found.value.parked ended
