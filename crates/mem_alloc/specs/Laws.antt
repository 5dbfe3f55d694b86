-- What holds of each charge that kills and of each refill, whichever function makes it.
use Rattle.std.specs.Prelude.{◌≡◌, ℕ, ◌+◌, ◌≤◌, ◌⊎◌, true, false, Option, Some, None, List, ◌∷◌, ◌++◌, length, Err}
use Rattle.group_tree.specs.declared.group.Group.{Group}
use Rattle.group_tree.specs.Groups.{in_subtree}
use Rattle.group_charge.specs.Charges.{AreCharges}
use Rattle.group_protection.specs.Protections.{IsKeptByMin, min_key, setting}
use Rattle.lru_lists.specs.declared.record.Home.{Home}
use Rattle.lru_lists.specs.Queue.{link_at}
use Rattle.step_rules.specs.declared.step.Action.TheVariants.{Kill}
use Rattle.step_rules.specs.declared.step.Answer.{Answer}
use Rattle.step_rules.specs.declared.step.Step.{Step}
use Rattle.step_rules.specs.After.{Run}
use Rattle.boot_words.specs.Pasts.{IsHeld}
use Rattle.boot_words.specs.Tables.{KnownTable}
use Rattle.mem_machine.specs.{IsConsistent, KnownMachine, home_of, VisitState, lock_holder, local_of, AreDrained, Transition, transition}
use Rattle.mem_machine.specs.Local.{IsLocalRun}
use Rattle.mem_reclaim.specs.declared.sets.Killed.{Killed}
use Rattle.mem_reclaim.specs.{kills_in, missed_in, IsKilledRoot, MissedAll, kill_set, IsVictim}
use Rattle.mem_alloc.specs.declared.faults.AllocFault.TheVariants.{Over}
use Rattle.mem_alloc.specs.Frames.{HasNoFreeFrame, LendsBatch}
use Rattle.mem_alloc.specs.Kills.{IsAlive, KillsForRoom, has_room_at}
use Rattle.mem_alloc.specs.NoRash.{IsChargedBelow, IsLeftBySteps, NoRashKill, has_oom_note}
use Rattle.mem_alloc.specs.Room.{IsRefusedAt}

-- By these first steps of a call, everything else was tried for the limit of the group `limited`, which has no room.
-- The steps lead to a consistent machine, the one that they left: no unit changed its group or its dirt, and each group
-- has the memory.min from before. One of them notes `oom` there, and each stock of the subtree is drained. For each
-- clean unit that the subtree still keeps and that memory.min doesn't, one of these steps is a freeze that missed.
-- `killed` is the victim for this limit, with its killed root.
pub record WasLast (MayAsk : List Group → ℕ → ℕ → Type 0) (table : KnownTable) (start : KnownMachine)
    (tried : Run) (killed : Killed) : Type 0 where
  pub now : KnownMachine
  pub leads : IsLocalRun (lock_holder start) (local_of table start) tried (local_of table now)
  pub consistent : IsConsistent table now
  pub charges : AreCharges now.ledger
  pub tied : IsLeftBySteps (transition table start tried now)
  pub limited : ℕ
  pub need : ℕ
  pub asked : MayAsk now.ledger.groups limited need
  pub over : has_room_at now.ledger limited need ≡ false
  pub noted : has_oom_note limited tried ≡ true
  pub drained : AreDrained table limited now
  pub frozen : (frame : ℕ) (home : Home) → in_subtree now.ledger.groups limited home.owner ≡ true
      → home_of now.links frame ≡ Some home → (link_at now.links frame).is_dirty ≡ false
      → (1 ≤ missed_in frame tried) ⊎ IsKeptByMin start.ledger now.ledger limited home.owner
  pub chosen : IsVictim now limited (Some killed.victim)
  pub killed_root_is : IsKilledRoot now.ledger.groups limited killed

-- The group dies with a victim, after these steps of a call. The steps `tried` came before the first kill of the set,
-- when everything else was tried. The groups killed since are the beginning of the set, and this group is next.
pub record ComesLast (MayAsk : List Group → ℕ → ℕ → Type 0) (table : KnownTable) (start : KnownMachine)
    (before : Run) (group : ℕ) : Type 0 where
  pub tried : Run
  pub since : Run
  pub killed : Killed
  pub left : List ℕ
  pub steps_are : before ≡ tried ++ since
  pub last : WasLast MayAsk table start tried killed
  pub set_is : kill_set last.now killed ≡ kills_in since ++ group ∷ left

-- in the steps of a call without a rash kill, each kill comes last
abbrev pub KillsComeLast : (List Group → ℕ → ℕ → Type 0) → Type 0
KillsComeLast MayAsk =
    (table : KnownTable) (start : KnownMachine) (steps before rest : Run) (made : Step × Answer)
    (group : ℕ) → NoRashKill table MayAsk start steps → steps ≡ before ++ made ∷ rest → made.0.action ≡ Kill group
    → ComesLast MayAsk table start before group

-- each kill of a charge comes last, for any group and any number of pages
abbrev pub ChargesKillLast : Type 0
ChargesKillLast = (group pages : ℕ) → KillsComeLast (IsChargedBelow group pages)

-- if no group had memory.min when the call began, each clean unit that the subtree still keeps was tried before a kill
abbrev pub TriesAllWithoutMin : (List Group → ℕ → ℕ → Type 0) → Type 0
TriesAllWithoutMin MayAsk =
    (table : KnownTable) (start : KnownMachine) (tried : Run) (killed : Killed)
    (last : WasLast MayAsk table start tried killed) → ((other : ℕ) → setting min_key start.ledger other ≡ 0)
    → (frame : ℕ) (home : Home) → in_subtree last.now.ledger.groups last.limited home.owner ≡ true
    → home_of last.now.links frame ≡ Some home → (link_at last.now.links frame).is_dirty ≡ false
    → 1 ≤ missed_in frame tried

-- so it is before the kills of a charge, for any group and any number of pages
abbrev pub ChargesTryAllWithoutMin : Type 0
ChargesTryAllWithoutMin = (group pages : ℕ) → TriesAllWithoutMin (IsChargedBelow group pages)

-- kills for a limit end when it has room for the pages, when the group that asks for them is killed, or when no victim
-- is left
abbrev pub KillsEndInTime : Type 0
KillsEndInTime =
    (requester : Option ℕ) (limited pages : ℕ) (call : Transition KnownMachine)
    → KillsForRoom requester limited pages call
    → (has_room_at call.after.ledger limited pages ≡ true)
    ⊎ ((¬ IsAlive requester call.after) ⊎ IsVictim call.after limited None)

-- After this call everything but a kill was tried for the limit of the group `limited`, which still has no room for
-- this many pages. Each stock of its subtree is drained. A freeze of each clean unit that the subtree still keeps
-- missed in this call, or memory.min keeps it.
pub record TriedAll (limited pages : ℕ) (call : Transition KnownMachine) : Type 0 where
  pub over : has_room_at call.after.ledger limited pages ≡ false
  pub drained : AreDrained call.table limited call.after
  pub missed : MissedAll limited call.before call.after

-- in a boot that allows no kills, a charge that is refused for a limit tried everything else
abbrev pub RefusedChargesTriedAll : Type 0
RefusedChargesTriedAll =
    (requester limited pages named : ℕ) (call : Transition KnownMachine) → call.table.choices.is_no_kill ≡ true
    → IsHeld call.table call.before.run.past → IsRefusedAt requester limited pages (Err (Over named)) call
    → TriedAll limited pages call

-- a refill adds a whole batch, or no frame is free after it
abbrev pub RefillsAreWhole : Type 0
RefillsAreWhole =
    (batch : ℕ) (call : Transition VisitState) → LendsBatch batch call
    → (length call.after.cpu.list ≡ length call.before.cpu.list + batch) ⊎ HasNoFreeFrame call.after
