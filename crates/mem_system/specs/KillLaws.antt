-- What holds of each kill of a command beside that it comes last: all groups of its set die with it, and the limit has
-- no room for what the command asked for.
use Rattle.std.specs.Prelude.{◌≡◌, ℕ, ◌+◌, ◌<◌, ◌≤◌, ◌^◌, true, false, Option, Some, List, ◌∷◌, ◌++◌}
use Rattle.group_tree.specs.declared.group.Group.{Group}
use Rattle.group_tree.specs.Groups.{in_subtree, limit_of}
use Rattle.group_charge.specs.Charges.{Ledger, current_of}
use Rattle.step_rules.specs.declared.step.Action.TheVariants.{Kill}
use Rattle.step_rules.specs.declared.step.Answer.{Answer}
use Rattle.step_rules.specs.declared.step.Step.{Step}
use Rattle.step_rules.specs.After.{Run}
use Rattle.boot_words.specs.Tables.{KnownTable}
use Rattle.mem_machine.specs.{KnownMachine, transition}
use Rattle.mem_alloc.specs.{DiesWithItsSet, ComesLast, has_room_at}
use Rattle.mem_alloc.specs.Laws.{TriedAll}
use Rattle.mem_system.specs.declared.command.LockedCommand.{LockedCommand}
use Rattle.mem_system.specs.declared.command.LockedCommand.TheVariants.{Alloc, Write}
use Rattle.mem_system.specs.declared.outcome.Outcome.{Outcome}
use Rattle.mem_system.specs.declared.outcome.Outcome.TheVariants.{Done}
use Rattle.mem_system.specs.Asks.{MayAskFor}
use Rattle.mem_system.specs.declared.setting.Setting.TheVariants.{Max}
use Rattle.mem_system.specs.Visits.{Transition, LockedState, Serves}

-- The kills of a command are whole sets. Right after everything else was tried, all groups that die with a victim are
-- killed, before any other group.
abbrev pub CommandsKillWholeSets : Type 0
CommandsKillWholeSets =
    (cmd : LockedCommand) (outcome : Outcome) (call : Transition LockedState)
    (served : Serves cmd outcome call) (before rest : Run)
    (made : Step × Answer) (group : ℕ) → served.inner ≡ before ++ made ∷ rest → made.0.action ≡ Kill group
    → DiesWithItsSet (MayAskFor cmd served.settled.machine.ledger.groups) call.table served.settled.machine before made
    rest

-- the limit that is set for the group is this one, and the group's usage is above it
pub record IsAboveSet (group : ℕ) (set : Option ℕ) (ledger : Ledger) (limited : ℕ) : Type 0 where
  pub same : limited ≡ group
  pub limit : ℕ
  pub limit_is : set ≡ Some limit
  pub above : limit < current_of ledger limited

-- 2^order pages, at most 8, have no room under a limit that the command found: that of the group, or of an ancestor
pub record IsOverOnPath (group order : ℕ) (groups : List Group) (ledger : Ledger) (limited : ℕ) : Type 0 where
  pub on_path : in_subtree groups limited group ≡ true
  pub limit : ℕ
  pub limit_is : limit_of groups limited ≡ Some limit
  pub over : limit < current_of ledger limited + 2 ^ order
  pub few : 2 ^ order ≤ 8

-- why a command that found these groups may kill for the limit of the group `limited`, by the charges as they are now
abbrev pub KillsFor : LockedCommand → (groups : List Group) → Ledger → (limited : ℕ) → Type 0
KillsFor (Write group (Max limit)) groups now limited = IsAboveSet group limit now limited
KillsFor (Alloc group order) groups now limited = IsOverOnPath group order groups now limited
KillsFor other groups now limited = ⊥

-- the kill comes last, and when everything else was tried there was this reason for it
pub record IsKilledFor (cmd : LockedCommand) (table : KnownTable) (start : KnownMachine) (before : Run) (group : ℕ)
    : Type 0 where
  pub comes_last : ComesLast (MayAskFor cmd start.ledger.groups) table start before group
  pub reason : KillsFor cmd start.ledger.groups comes_last.last.now.ledger comes_last.last.limited

-- A Write kills only while the usage is above the limit that it sets. An Alloc kills only while its own pages
-- have no room under a limit on its group's path. No other command kills.
abbrev pub CommandsKillOverLimits : Type 0
CommandsKillOverLimits =
    (cmd : LockedCommand) (outcome : Outcome) (call : Transition LockedState)
    (served : Serves cmd outcome call) (before rest : Run)
    (made : Step × Answer) (group : ℕ) → served.inner ≡ before ++ made ∷ rest → made.0.action ≡ Kill group
    → IsKilledFor cmd call.table served.settled.machine before group

-- in a boot that chose that no group is killed, no command kills
abbrev pub BootsMayKillNobody : Type 0
BootsMayKillNobody =
    (cmd : LockedCommand) (outcome : Outcome) (call : Transition LockedState)
    (served : Serves cmd outcome call) (before rest : Run)
    (made : Step × Answer) (group : ℕ) → call.table.choices.is_no_kill ≡ true → served.inner ≡ before ++ made ∷ rest
    → ¬ (made.0.action ≡ Kill group)

-- in a boot that chose that no group is killed, a Write of memory.max that leaves the group's usage above its limit tried
-- everything else
abbrev pub WritesOverALimitTriedAll : Type 0
WritesOverALimitTriedAll =
    (group : ℕ) (limit : Option ℕ) (call : Transition LockedState)
    (served : Serves (Write group (Max limit)) Done call) → call.table.choices.is_no_kill ≡ true
    → has_room_at served.done.ledger group 0 ≡ false
    → TriedAll group 0 (transition call.table served.settled.machine served.inner served.done)
