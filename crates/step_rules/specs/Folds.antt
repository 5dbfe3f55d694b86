-- What a run says of limits, flags, killed groups, the lock, lists and stocks, each folded over its pairs without the
-- state.
use Rattle.std.specs.Prelude.{◌≡◌, ℕ, ◌==◌, Bool, true, false, Option, Some, None, is_some, List, [], fold, if◌then◌else◌}
use Rattle.group_tree.specs.Groups.{has_group, limit_of, is_oom_group}
use Rattle.step_rules.specs.declared.phase.Hold.{Hold}
use Rattle.step_rules.specs.declared.phase.Hold.TheVariants.{Unheld, HeldBy, Visiting}
use Rattle.step_rules.specs.declared.step.Action.{Action}
use Rattle.step_rules.specs.declared.step.Action.TheVariants.{Lock, Unlock, OpenVisit, ShutVisit, Put, TakeIn, PassBack, Consume, Credit, Fill}
use Rattle.step_rules.specs.declared.step.Action.TheVariants.{DrainStock, SetMax, SetFlag, Make, Kill}
use Rattle.step_rules.specs.declared.step.Answer.{Answer}
use Rattle.step_rules.specs.declared.step.Answer.TheVariants.{Done, Last, Took, Stocked, Pages, Number}
use Rattle.step_rules.specs.State.{Zone, without, with_last, front_of, is_cpu}
use Rattle.step_rules.specs.After.{Run, state_of, part_after, IsLegalRun}

-- ---- groups
-- the limit of group g after one more step
abbrev pub limit_after : ℕ → Option ℕ → Action → Answer → Option ℕ
limit_after g old (SetMax h limit) Done = if g == h then limit else old
limit_after g old (Make path) (Number n) = if g == n then None else old
limit_after g old action answer = old

-- memory.max: the limit that the group was given last since it was made, in pages, or none
abbrev pub limit_given : Run → ℕ → Option ℕ
limit_given run g = fold (λ old e. limit_after g old e.0.action e.1) None run

-- the flag of group g after one more step: whether it is killed as a whole
abbrev pub flag_after : ℕ → Bool → Action → Answer → Bool
flag_after g old (SetFlag h flag) Done = if g == h then flag else old
flag_after g old (Make path) (Number n) = if g == n then false else old
flag_after g old action answer = old

-- memory.oom.group: the flag that the group was given last since it was made; it is off at first
abbrev pub flag_given : Run → ℕ → Bool
flag_given run g = fold (λ old e. flag_after g old e.0.action e.1) false run

-- whether group g is killed after one more step
abbrev pub killed_after : ℕ → Bool → Action → Answer → Bool
killed_after g old (Kill h) Done = if g == h then true else old
killed_after g old (Make path) (Number n) = if g == n then false else old
killed_after g old action answer = old

-- the group was killed since it was made, or since the start
abbrev pub was_killed : Run → ℕ → Bool
was_killed run g = fold (λ old e. killed_after g old e.0.action e.1) false run

-- the limit, the flag and the kill of the group in the state are those of the run
pub record GroupsFollowRun (zone : Zone) (run : Run) (g : ℕ) : Type 0 where
  pub limit : has_group (state_of zone run).groups g ≡ true → limit_of (state_of zone run).groups g ≡ limit_given run g
  pub flag : has_group (state_of zone run).groups g ≡ true
      → is_oom_group (state_of zone run).groups g ≡ flag_given run g
  pub killed : (state_of zone run).killed g ≡ was_killed run g

-- after every legal run the limit, the flag and the kill of each group are those of the run
abbrev pub AllGroupsFollowRun : Type 0
AllGroupsFollowRun = (zone : Zone) (run : Run) → IsLegalRun zone run → (g : ℕ) → GroupsFollowRun zone run g

-- ---- the lock
-- who holds the lock after one more step
abbrev pub holder_after : Option ℕ → ℕ → Action → Answer → Option ℕ
holder_after old seat Lock Done = Some seat
holder_after old seat Unlock Done = None
holder_after old seat action answer = old

-- the seat that took the lock last and hasn't released it; if there is none, the lock is free
abbrev pub holder_of : Run → Option ℕ
holder_of run = fold (λ old e. holder_after old e.0.seat e.0.action e.1) None run

-- whether a visit is open after one more step
abbrev pub open_after : Bool → Action → Answer → Bool
open_after old (OpenVisit cpu) Done = true
open_after old (ShutVisit cpu) Done = false
open_after old action answer = old

-- the last visit that was opened hasn't been shut
abbrev pub has_visit : Run → Bool
has_visit run = fold (λ old e. open_after old e.0.action e.1) false run

-- who holds the lock, and whether its visit is open, as one value
abbrev pub hold_of : Option ℕ → Bool → Hold
hold_of None visit = Unheld
hold_of (Some cpu) false = HeldBy cpu
hold_of (Some cpu) true = Visiting cpu

-- the holder and the visit in the state are those of the run; no visit is open while the lock is free
pub record LockFollowsRun (zone : Zone) (run : Run) : Type 0 where
  pub hold : (state_of zone run).hold ≡ hold_of (holder_of run) (has_visit run)
  pub free : holder_of run ≡ None → has_visit run ≡ false

-- after every legal run the holder and the visit are those of the run
abbrev pub TheLockFollowsRun : Type 0
TheLockFollowsRun = (zone : Zone) (run : Run) → IsLegalRun zone run → LockFollowsRun zone run

-- ---- a CPU's frames
-- the frames that a CPU has: its list, its fresh frames and its back frames
pub record InHand : Type 0 where
  pub list : List ℕ
  pub fresh : List ℕ
  pub back : List ℕ

-- A CPU's frames after one more step. A frame that is taken in or credited goes to the end of the list. A consume
-- moves the front of the list to the fresh frames, a last put adds a back frame, and a frame that is passed back is
-- removed.
abbrev pub hand_after : ℕ → InHand → ℕ → Action → Answer → InHand
hand_after cpu old seat (TakeIn f) Done = if cpu == seat then record old { list = with_last old.list f } else old
hand_after cpu old seat (Credit f) Stocked =
    if cpu == seat then record old { list = with_last old.list f; fresh = without f old.fresh } else old
hand_after cpu old seat (Consume g) Took =
    if cpu == seat then record old {
      list = without (front_of old.list) old.list;
      fresh = with_last old.fresh (front_of old.list);
    } else old
hand_after cpu old seat (Put f) Last = if cpu == seat then record old { back = with_last old.back f } else old
hand_after cpu old seat (PassBack f) Done =
    if cpu == seat then record {
      list = without f old.list;
      fresh = without f old.fresh;
      back = without f old.back;
    } else old
hand_after cpu old seat action answer = old

-- the frames that a CPU has after the run
abbrev pub hand_of : Run → ℕ → InHand
hand_of run cpu = fold (λ old e. hand_after cpu old e.0.seat e.0.action e.1)
    (record { list = []; fresh = []; back = [] }) run

-- ---- a CPU's stock
-- the last fill of a stock: its group, if there was one, and whether a drain followed
pub record LastFill : Type 0 where
  pub group : Option ℕ
  pub is_drained : Bool

-- the last fill of the CPU's stock after one more step
abbrev pub fill_after : ℕ → LastFill → Action → Answer → LastFill
fill_after cpu old (Fill other g n) Done = if cpu == other then record { group = Some g; is_drained = false } else old
fill_after cpu old (DrainStock other) (Pages n) = if cpu
    == other then record old { is_drained = is_some old.group } else old
fill_after cpu old action answer = old

-- the last fill of the CPU's stock
abbrev pub last_fill : Run → ℕ → LastFill
last_fill run cpu = fold (λ old e. fill_after cpu old e.0.action e.1) (record { group = None; is_drained = false }) run

-- The CPU's list, fresh frames and back frames in the state are those of the run. Its stock is of the group of its last
-- fill, and is drained exactly if a drain followed that fill.
pub record PartFollowsRun (zone : Zone) (run : Run) (cpu : ℕ) : Type 0 where
  pub list : (part_after zone run cpu).list ≡ (hand_of run cpu).list
  pub fresh : (part_after zone run cpu).fresh ≡ (hand_of run cpu).fresh
  pub back : (part_after zone run cpu).back ≡ (hand_of run cpu).back
  pub group : (part_after zone run cpu).stock.group ≡ (last_fill run cpu).group
  pub is_drained : (part_after zone run cpu).stock.is_drained ≡ (last_fill run cpu).is_drained

-- after every legal run the frames and the stock of each CPU are those of the run
abbrev pub AllPartsFollowRun : Type 0
AllPartsFollowRun = (zone : Zone) (run : Run) → IsLegalRun zone run → (cpu : ℕ) → is_cpu zone cpu ≡ true
    → PartFollowsRun zone run cpu
