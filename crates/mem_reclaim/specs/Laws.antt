-- What holds of every kill and every reclaim. The promise of memory.oom.group is that of cgroup-v2.rst: a flagged group
-- is killed as a whole, or no group of it is.
use Rattle.std.specs.Prelude.{◌≡◌, ℕ, ◌+◌, ◌-◌, ◌^◌, ◌<◌, ◌≤◌, ◌==◌, ◌⊎◌, true, false, Option, Some, List, Contains}
use Rattle.std.specs.List.{count_by}
use Rattle.group_tree.specs.declared.group.Group.{Group}
use Rattle.group_tree.specs.{AreGroups, in_subtree, is_oom_group, max_count}
use Rattle.group_charge.specs.Charges.{current_of}
use Rattle.group_protection.specs.Protections.{IsKeptByMin, effective, low_key, min_key}
use Rattle.lru_lists.specs.declared.record.Home.{Home}
use Rattle.lru_lists.specs.Queue.{link_at}
use Rattle.step_rules.specs.declared.phase.ChargedUnit.{ChargedUnit}
use Rattle.step_rules.specs.After.{Run}
use Rattle.group_charge.specs.declared.note.Note.TheVariants as note
use Rattle.boot_words.specs.Tables.{KnownTable}
use Rattle.mem_machine.specs.declared.frame_state.FrameState.TheVariants.{Head}
use Rattle.mem_machine.specs.FrameStates.{frame_state_at}
use Rattle.mem_machine.specs.Machines.{KnownMachine, home_of, with_note}
use Rattle.mem_reclaim.specs.declared.sets.Killed.{Killed}
use Rattle.mem_reclaim.specs.Killing.{IsKilledBy, kept_units}
use Rattle.mem_reclaim.specs.Moves.{FreesPages, all_missed_in, missed_in, returned_in}
use Rattle.mem_reclaim.specs.declared.passes.Pass.{Pass}
use Rattle.mem_reclaim.specs.declared.passes.Pass.TheVariants.{First}
use Rattle.mem_reclaim.specs.Passes.{TakesTurn, spared_by, subtree_of, turn_want}
use Rattle.mem_reclaim.specs.Shares.{TakesItsShare}
use Rattle.mem_reclaim.specs.Rounds.{ReclaimsRound, pages_missing, pages_wanted}
use Rattle.mem_reclaim.specs.Sets.{IsKilledRoot, kill_set}
use Rattle.mem_reclaim.specs.Staying.{MissedAll}
use Rattle.mem_reclaim.specs.Victim.{IsVictim, may_be_killed, own_frames}
use Rattle.mem_reclaim.specs.Wanted.{FreesNothing, Progress, progress}

-- `killed` is the victim for the group `limited` in this machine, with its killed root
pub record IsChosen (machine : KnownMachine) (limited : ℕ) (killed : Killed) : Type 0 where
  pub groups : AreGroups machine.ledger.groups
  pub chosen : IsVictim machine limited (Some killed.victim)
  pub killed_root_is : IsKilledRoot machine.ledger.groups limited killed

-- of the groups of the subtree that aren't killed, all are in the set, or none is
abbrev pub HasAllOrNone : KnownMachine → ℕ → List ℕ → Type 0
HasAllOrNone machine group set =
    ((other : ℕ) → may_be_killed machine group other ≡ true → Contains set other)
    ⊎ ((other : ℕ) → may_be_killed machine group other ≡ true → ¬ Contains set other)

-- a flagged group in the limited group's subtree is killed as a whole, or no group of its subtree is killed
abbrev pub FlaggedGroupsDieWhole : Type 0
FlaggedGroupsDieWhole =
    (machine : KnownMachine) (limited : ℕ) (killed : Killed) → IsChosen machine limited killed
    → (group : ℕ) → in_subtree machine.ledger.groups limited group ≡ true
    → is_oom_group machine.ledger.groups group ≡ true → HasAllOrNone machine group (kill_set machine killed)

-- the victim is killed
abbrev pub VictimsDie : Type 0
VictimsDie =
    (machine : KnownMachine) (limited : ℕ) (killed : Killed) → IsChosen machine limited killed
    → Contains (kill_set machine killed) killed.victim

-- a group dies only if it isn't killed yet and is in the limited group's subtree
abbrev pub OnlyTheLivingDie : Type 0
OnlyTheLivingDie =
    (machine : KnownMachine) (limited : ℕ) (killed : Killed) → IsChosen machine limited killed
    → (group : ℕ) → Contains (kill_set machine killed) group → may_be_killed machine limited group ≡ true

-- a group has at most one victim
abbrev pub TheVictimIsOne : Type 0
TheVictimIsOne =
    (machine : KnownMachine) (group : ℕ) (one two : Option ℕ) → IsVictim machine group one → IsVictim machine group two
    → one ≡ two

-- if each clean unit that the subtree still keeps counts as missed, or memory.min keeps it, a freeze of each that
-- memory.min doesn't keep is among the steps
abbrev pub MissedUnitsWereTried : Type 0
MissedUnitsWereTried =
    (table : KnownTable) (before : KnownMachine) (freed : ℕ) (steps : Run) (after : KnownMachine) (group : ℕ)
    → FreesPages table before freed steps after → MissedAll group before after
    → (frame : ℕ) (home : Home) → in_subtree after.ledger.groups group home.owner ≡ true
    → home_of after.links frame ≡ Some home → (link_at after.links frame).is_dirty ≡ false
    → (1 ≤ missed_in frame steps) ⊎ IsKeptByMin before.ledger after.ledger group home.owner

-- a group has no turn if its usage is no more than what memory.min protects: no pass takes a page of it, and nothing
-- changes but what is noted
abbrev pub ProtectedGroupsHaveNoTurn : Type 0
ProtectedGroupsHaveNoTurn =
    (pass : Pass) (target group want : ℕ) (done : Progress) → TakesTurn pass target group want done
    → 1 ≤ effective min_key done.before.ledger target group
    → current_of done.before.ledger group ≤ effective min_key done.before.ledger target group
    → FreesNothing (progress done.freed (record done.before { notes = done.after.notes }) done.steps done.after)

-- no unit has more pages than this
abbrev pub UnitsHaveAtMost : ℕ → KnownMachine → Type 0
UnitsHaveAtMost most machine =
    (frame : ℕ) (unit : ChargedUnit) → frame_state_at machine.frame_states frame ≡ Head unit → 2 ^ unit.order ≤ most

-- how many pages the turn of a group wants that begins with this machine
abbrev pub wanted_of : Pass → (target group want : ℕ) → KnownMachine → ℕ
wanted_of pass target group want machine =
    turn_want want (current_of machine.ledger group)
    (spared_by pass (effective min_key machine.ledger target group) (effective low_key machine.ledger target group))

-- a turn frees fewer pages than those that it wants and the largest unit together
abbrev pub TurnsFreeFewMore : Type 0
TurnsFreeFewMore =
    (pass : Pass) (target group want most : ℕ) (done : Progress) → 1 ≤ most → UnitsHaveAtMost most done.before
    → TakesTurn pass target group want done → done.freed < wanted_of pass target group want done.before + most

-- if all units are single frames, a turn leaves as many pages as memory.min protects
abbrev pub TurnsOfFramesLeaveMin : Type 0
TurnsOfFramesLeaveMin =
    (pass : Pass) (target group want : ℕ) (done : Progress) → UnitsHaveAtMost 1 done.before
    → TakesTurn pass target group want done → 1 ≤ effective min_key done.before.ledger target group
    → done.freed ≤ current_of done.before.ledger group - effective min_key done.before.ledger target group

-- the last note is of a round of this number: it reports the units that the steps return, the freezes among them that
-- missed, the pages, and the usage
pub record NotesRound (group number : ℕ) (done : Progress) : Type 0 where
  pub reclaimed : KnownMachine
  pub noted : done.after ≡ with_note reclaimed
      (note.Round number (returned_in done.steps) (all_missed_in done.steps) done.freed
      (current_of reclaimed.ledger group))

-- a round's note reports what the round's own steps did, unless one of the machine's two counts is at its greatest
abbrev pub RoundsAreNotedAsMade : Type 0
RoundsAreNotedAsMade =
    (group number want : ℕ) (done : Progress) → ReclaimsRound group number want done
    → done.after.counts.freezes < max_count → done.after.counts.misses < max_count → NotesRound group number done

-- the last note is of the kill of this group: of its units it reports those that the steps return as freed, and the
-- others as pinned
pub record NotesKill (limited group : ℕ) (before : KnownMachine) (steps : Run) (after : KnownMachine) : Type 0 where
  pub killed : KnownMachine
  pub noted : after ≡ with_note killed
      (note.Kill group (returned_in steps) (own_frames before group - own_frames killed group)
      (kept_units before group - returned_in steps) (own_frames killed group) (current_of killed.ledger limited))

-- the note of a victim that dies alone reports what the steps of its kill did, unless the machine's count of last puts
-- is at its greatest
abbrev pub LoneKillsAreNotedAsMade : Type 0
LoneKillsAreNotedAsMade =
    (table : KnownTable) (limited : ℕ) (killed : Killed) (before after : KnownMachine)
    → (kill : IsKilledBy table limited killed before after) → is_oom_group before.ledger.groups
    killed.killed_root ≡ false
    → after.counts.last_puts < max_count → NotesKill limited killed.victim before kill.steps after

-- each group of the subtree has one turn in each pass
abbrev pub TurnsLeaveOutNoGroup : Type 0
TurnsLeaveOutNoGroup =
    (groups : List Group) (target group : ℕ) → AreGroups groups → in_subtree groups target group ≡ true
    → count_by (λ number. number == group) (subtree_of groups target) ≡ 1

-- in the pass of shares the turn of a group without a share changes nothing
abbrev pub GroupsWithoutShareHaveNoTurn : Type 0
GroupsWithoutShareHaveNoTurn =
    (share : ℕ → ℕ) (target group want : ℕ) (done : Progress) → TakesItsShare (Some share) First target group want done
    → share group ≡ 0 → FreesNothing done

-- in the pass of shares a turn frees fewer pages than the group's share and the largest unit together
abbrev pub TurnsKeepToTheirShare : Type 0
TurnsKeepToTheirShare =
    (share : ℕ → ℕ) (target group want most : ℕ) (done : Progress) → 1 ≤ most → UnitsHaveAtMost most done.before
    → TakesItsShare (Some share) First target group want done → done.freed < share group + most

-- a round that has to want at least one page wants just the pages that are missing
abbrev pub BatchesOfOneWantWhatIsMissing : Type 0
BatchesOfOneWantWhatIsMissing =
    (group need limit : ℕ) → pages_wanted 1 group need limit ≡ pages_missing group need limit
