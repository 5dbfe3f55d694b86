-- What a call did under the lock. Serves the calls that take it.
use Rattle.std.proofs.Common.{◌≡◌, ℕ, Option, Some, ap, refl, subst, sym}
use Rattle.std.specs.Prelude.{IsSomeAnd}
use Rattle.std.specs.Box.{with_value}
use Rattle.std.specs.Global.{Box}
use Rattle.zone_blocks.specs.declared.config.Config.{Config}
use Rattle.boot_words.specs.{Meets}
use Rattle.boot_words.specs.Tables.{KnownTable}
use Rattle.group_charge.specs.Charges.{Ledger}
use Rattle.mem_machine.specs.{with_past}
use Rattle.mem_system.specs.{CpuInRun, IsSound, KnownLocked, LockedState, locked_state}
use Rattle.zone_threads.specs.Calling.{IfMissing, NoGroupBehind}
use Rattle.zone_threads.specs.Homes.{LockedChange}
use Rattle.zone_threads.specs.declared.served.Missed.{Missed}
use Rattle.zone_threads.specs.declared.served.Missed.TheVariants as missed
use Rattle.zone_threads.specs.{IsTaken, KnownBehind, KnownHome, OnCpu, SeesBehind, ServesBehind, Then, UnderLock}

-- what was found is what the parameter was
pub serves_behind : (t : KnownTable) (Does : LockedState → LockedState → Type 0) (inside found : KnownBehind) (l : KnownLocked) (from to : CpuInRun)
    → inside ≡ found → IsSound t inside.locked → Does (locked_state inside.locked from) (locked_state l to) → IsSound t l
    → ServesBehind t Does found (record inside { locked = l }) from to
serves_behind t Does inside found l from to is before served after =
    subst (λ (b : KnownBehind). ServesBehind t Does b (record inside { locked = l }) from to) is
    (record { sound_before = before; served = served; sound_after = after; parked = record { parked = refl; room = refl } })

-- the same of a look
pub seen_behind : (t : KnownTable) (IsSo : Ledger → Type 0) (inside found : KnownBehind) (l : KnownLocked) (from to : CpuInRun) → inside ≡ found
    → IsSo inside.locked.machine.ledger → l ≡ record inside.locked { machine = with_past inside.locked.machine l.machine.run.past } → IsSound t l
    → to.part ≡ from.part → to.last ≡ from.last → Meets t inside.locked.machine.run.past from.past l.machine.run.past to.past
    → SeesBehind t IsSo found (record inside { locked = l }) from to
seen_behind t IsSo inside found l from to is so left sound part last meets =
    subst (λ (b : KnownBehind). SeesBehind t IsSo b (record inside { locked = l }) from to) is (record {
      so = so;
      left_is = ap (λ (m : KnownLocked). record inside { locked = m }) left;
      sound = sound;
      part = part;
      last = last;
      meets = meets;
    })

-- what was done between a take and the putting back
pub under_lock : (Does : (found left : KnownBehind) (from to : CpuInRun) → Type 0) (before after : KnownHome) (from to : CpuInRun) (sizes : Config)
    (change : LockedChange) (loan : Option (Box KnownBehind)) (taken : Box KnownBehind) (found left : KnownBehind) → before.cpu ≡ Some from
    → after.cpu ≡ Some to → after.sizes ≡ before.sizes → after.change ≡ Some change → sizes ≡ before.sizes → IsTaken sizes loan taken → change.found ≡ loan
    → change.left ≡ Some (with_value taken left) → found ≡ taken.value → Does found left from to → UnderLock Does before after
under_lock Does before after from to sizes change loan taken found left was is stays shows same took of_loan put value done = record {
  from = from;
  to = to;
  sizes = stays;
  was = was;
  is = is;
  change = change;
  change_is = shows;
  taken = taken;
  left = with_value taken left;
  taken_is = subst (λ (s : Config). IsTaken s change.found taken) same (subst (λ (o : Option (Box KnownBehind)). IsTaken sizes o taken) (sym of_loan) took);
  left_is = put;
  done = subst (λ (b : KnownBehind). Does b left from to) value done;
}

-- what was missed without the lock is served under it
pub then_served : (Missed : CpuInRun → CpuInRun → Type 0) (Served : KnownHome → KnownHome → Type 0) (before between after : KnownHome)
    (from seen : CpuInRun) → before.cpu ≡ Some from → between.cpu ≡ Some seen → between.sizes ≡ before.sizes → between.change ≡ before.change
    → Missed from seen → Served between after → Then (OnCpu Missed) Served before after
then_served Missed Served before between after from seen was now sizes change missed served = record {
  between = between;
  first_done = record { from = from; to = seen; sizes = sizes; change = change; was = was; is = now; done = missed };
  rest_done = served;
}

-- what holds of a home's CPU
pub of_cpu : (P : CpuInRun → Type 0) (home : Option CpuInRun) (cpu : CpuInRun) → home ≡ Some cpu → P cpu → IsSomeAnd home P
of_cpu P home cpu is holds = subst (λ (o : Option CpuInRun). IsSomeAnd o P) (sym is) holds

-- no group has the number
pub no_group : (t : KnownTable) (group : ℕ) (why : Missed) (before after : KnownHome) → why ≡ missed.NoGroup → IfMissing t group why before after
    → UnderLock (NoGroupBehind t group) before after
no_group t group why before after is done = subst (λ (w : Missed). IfMissing t group w before after) is done
