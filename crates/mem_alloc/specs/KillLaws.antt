-- What holds of each kill beside that it comes last: all groups of its set die with it, and the limit has no room.
use Rattle.std.specs.Prelude.{◌≡◌, ℕ, ◌+◌, ◌<◌, ◌≤◌, true, Some, List, ◌∷◌, ◌++◌}
use Rattle.group_tree.specs.declared.group.Group.{Group}
use Rattle.group_tree.specs.Groups.{in_subtree, limit_of}
use Rattle.group_charge.specs.Charges.{Ledger, current_of}
use Rattle.step_rules.specs.declared.step.Action.TheVariants.{Kill}
use Rattle.step_rules.specs.declared.step.Answer.{Answer}
use Rattle.step_rules.specs.declared.step.Step.{Step}
use Rattle.step_rules.specs.After.{Run}
use Rattle.boot_words.specs.Tables.{KnownTable}
use Rattle.mem_machine.specs.Machines.{KnownMachine}
use Rattle.mem_reclaim.specs.declared.sets.Killed.{Killed}
use Rattle.mem_reclaim.specs.{kills_in, kill_set}
use Rattle.mem_alloc.specs.Kills.{most_killed_for}
use Rattle.mem_alloc.specs.Laws.{ComesLast, WasLast}
use Rattle.mem_alloc.specs.NoRash.{IsChargedBelow, NoRashKill, begins_with_kill}

-- A kill and the steps around it kill one whole set. By the steps `tried` everything else was tried. The steps right
-- after them, `since`, this kill and `others`, begin with a kill. They kill exactly the groups of the set, in order.
pub record DiesWithItsSet (MayAsk : List Group → ℕ → ℕ → Type 0) (table : KnownTable) (start : KnownMachine)
    (before : Run) (made : Step × Answer) (rest : Run) : Type 0 where
  pub tried : Run
  pub since : Run
  pub others : Run
  pub later : Run
  pub killed : Killed
  pub before_is : before ≡ tried ++ since
  pub rest_is : rest ≡ others ++ later
  pub last : WasLast MayAsk table start tried killed
  pub at_once : begins_with_kill (since ++ made ∷ others) ≡ true
  pub whole : kills_in (since ++ made ∷ others) ≡ kill_set last.now killed

-- in the steps of a call without a rash kill, each killed group dies with its whole set
abbrev pub GroupsDieWithTheirSets : (List Group → ℕ → ℕ → Type 0) → Type 0
GroupsDieWithTheirSets MayAsk =
    (table : KnownTable) (start : KnownMachine) (steps before rest : Run) (made : Step × Answer)
    (group : ℕ) → NoRashKill table MayAsk start steps → steps ≡ before ++ made ∷ rest → made.0.action ≡ Kill group
    → DiesWithItsSet MayAsk table start before made rest

-- the kills of a charge are whole sets, for any group and any number of pages
abbrev pub ChargesKillWholeSets : Type 0
ChargesKillWholeSets = (group pages : ℕ) → GroupsDieWithTheirSets (IsChargedBelow group pages)

-- the group has a limit, and with this many more pages its usage is above it
pub record IsOverLimit (ledger : Ledger) (group pages : ℕ) : Type 0 where
  pub limit : ℕ
  pub limit_is : limit_of ledger.groups group ≡ Some limit
  pub over : limit < current_of ledger group + pages

-- A kill for these pages of the requester comes last. The pages are few, and the limit for which it comes has no room
-- for them. It is that of the requester or of an ancestor.
pub record IsKilledForPages (requester pages : ℕ) (table : KnownTable) (start : KnownMachine)
    (before : Run) (group : ℕ) : Type 0 where
  pub comes_last : ComesLast (IsChargedBelow requester pages) table start before group
  pub on_path : in_subtree comes_last.last.now.ledger.groups comes_last.last.limited requester ≡ true
  pub over : IsOverLimit comes_last.last.now.ledger comes_last.last.limited pages
  pub few : pages ≤ most_killed_for

-- a charge kills only while its own pages have no room
abbrev pub ChargesKillOverLimits : Type 0
ChargesKillOverLimits =
    (requester pages : ℕ) (table : KnownTable) (start : KnownMachine) (steps before rest : Run)
    (made : Step × Answer) (group : ℕ) → NoRashKill table (IsChargedBelow requester pages) start steps
    → steps ≡ before ++ made ∷ rest → made.0.action ≡ Kill group
    → IsKilledForPages requester pages table start before group
