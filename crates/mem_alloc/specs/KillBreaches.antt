-- What breaks the laws of kills: calls, and lists of steps, each there for one thing that is wrong. So each line of the
-- definitions refuses something.
use Rattle.std.specs.Prelude.{◌≡◌, ℕ, ◌≤◌, ◌⊎◌, Bool, true, false, Some, List, [], ◌∷◌, ◌++◌, codes, map, replicate, slice_set}
use Rattle.group_tree.specs.declared.group.Group.{Group}
use Rattle.group_tree.specs.Groups.{in_subtree, new_row, the_root}
use Rattle.group_charge.specs.declared.account.Account.{Account}
use Rattle.group_charge.specs.Charges.{AreCharges, Ledger, empty_account, no_settings}
use Rattle.group_protection.specs.Protections.{IsKeptByMin}
use Rattle.lru_lists.specs.declared.record.Link.{Link}
use Rattle.lru_lists.specs.declared.record.LruList.{LruList}
use Rattle.lru_lists.specs.declared.record.LruList.TheVariants.{Inactive, Active}
use Rattle.lru_lists.specs.declared.record.Home.{Home}
use Rattle.lru_lists.specs.Queue.{link_at, nowhere}
use Rattle.step_rules.specs.declared.step.Action.TheVariants.{Freeze, Get, SetMax}
use Rattle.step_rules.specs.declared.step.Answer.TheVariants.{Done, Held, Missed}
use Rattle.step_rules.specs.State.{PartStock}
use Rattle.step_rules.specs.After.{Run, cpu_makes, zone_makes}
use Rattle.boot_words.specs.Tables.{KnownTable}
use Rattle.cpu_part.specs.Cpus.{KnownCpuLists}
use Rattle.mem_machine.specs.declared.frame_state.FrameState.{FrameState}
use Rattle.mem_machine.specs.declared.frame_state.FrameState.TheVariants.{Free, Head, Tail}
use Rattle.mem_machine.specs.{HeadsKeptUnit, IsConsistent, KnownMachine, home_of, kill_steps, lock_holder, local_of, note_oom_steps, part_at, Stays, Transition, transition, visit_state}
use Rattle.mem_machine.specs.Local.{IsLocalRun}
use Rattle.mem_reclaim.specs.declared.sets.Killed.{Killed}
use Rattle.mem_reclaim.specs.{CountsMisses, kill_set, missed_in, misses_of}
use Rattle.mem_alloc.specs.Laws.{WasLast}
use Rattle.mem_alloc.specs.NoRash.{IsChargedBelow, MayKill, NoRashKill}
use Rattle.mem_alloc.specs.Rounds.{MakesRound}

-- ---- a call before a kill
-- what matters of a call for the kill after it: the table's choice, the machine before and after, and the steps
pub record Situation : Type 0 where
  pub is_no_kill : Bool
  pub ledger_before : Ledger
  pub ledger : Ledger
  pub links_before : List Link
  pub links : List Link
  pub frames : List FrameState
  pub killed : List Bool
  pub stock : PartStock
  pub misses_before : ℕ
  pub misses : ℕ
  pub steps : Run

-- a call in this situation; all else of its table and machines is as it is in these
abbrev pub call_in : Situation → KnownTable → (before after : KnownMachine) → Transition KnownMachine
call_in s table before after = transition
    (record table { choices = record (table.choices) { is_no_kill = s.is_no_kill } })
    (record before { ledger = s.ledger_before; links = s.links_before })
    s.steps
    (record after { ledger = s.ledger; links = s.links; frame_states = s.frames; killed = s.killed })

-- the runs of these machines have the situation's misses of frame 0, and leave its stock to the only CPU
pub record HasRuns (s : Situation) (table : KnownTable) (before after : KnownMachine) : Type 0 where
  pub cpus : table.cpus ≡ 1
  pub misses_before : misses_of before 0 ≡ s.misses_before
  pub misses : misses_of after 0 ≡ s.misses
  pub stock : (part_at table after 1).stock ≡ s.stock

-- one page is asked for under the limit of /a
abbrev pub asks_a_page : List Group → (limited need : ℕ) → Type 0
asks_a_page groups limited need = (limited ≡ 1) × (need ≡ 1)

-- no call in this situation is such a call
abbrev pub IsNever : (Is : Transition KnownMachine → Type 0) → Situation → Type 0
IsNever Is s =
    (table : KnownTable) (before after : KnownMachine) → HasRuns s table before after → ¬ Is (call_in s table before after)

-- no victim may be killed after a call in this situation
abbrev pub IsTooEarly : Situation → Killed → Type 0
IsTooEarly s killed = IsNever (λ call. MayKill asks_a_page call killed) s

-- the root, with room for four groups below it: /a with a limit, /a/b, /a/c and /d; memory.oom.group of /a and of /a/b
abbrev pub tree : (limit : ℕ) (of_a of_b : Bool) → List Group
tree limit of_a of_b =
    the_root 4 ∷ record (new_row 1 (codes "/a")) { limit = Some limit; oom_group = of_a }
    ∷ record (new_row 2 (codes "/a/b")) { oom_group = of_b } ∷ new_row 3 (codes "/a/c") ∷ new_row 4 (codes "/d") ∷ []

-- the account of a group with this many pages of its own
abbrev pub with_pages : (group pages : ℕ) → Account
with_pages group pages = record (empty_account group) { pages = pages; peak = 7 }

-- these groups, with this many pages of /a/b and of /d, and one of /a/c
abbrev pub charged_with : List Group → (of_b of_d : ℕ) → Ledger
charged_with groups of_b of_d = record {
  groups = groups;
  accounts = with_pages 0 0 ∷ with_pages 1 0 ∷ with_pages 2 of_b ∷ with_pages 3 1 ∷ with_pages 4 of_d ∷ [];
  settings = [];
}

-- /a has three pages, which is one more than its limit
abbrev pub full : Ledger
full = charged_with (tree 2 false false) 2 0

-- the same with this memory.min of each group, by number
abbrev pub full_with_min : List ℕ → Ledger
full_with_min mins = record full { settings = map (λ (pages : ℕ). record no_settings { min = Some pages }) mins }

-- the record of a unit that is kept for this group
abbrev pub kept_for : (group : ℕ) (list : LruList) (is_dirty : Bool) → Link
kept_for group list is_dirty = record nowhere { home = Some (record { owner = group; list = list }); is_dirty = is_dirty }

-- frame 0, kept for this group, and two dirty units: frame 1 of /a/b and frame 2 of /a/c
abbrev pub first_of : (group : ℕ) (is_dirty : Bool) → List Link
first_of group is_dirty =
    kept_for group Inactive is_dirty ∷ kept_for 2 Active true ∷ kept_for 3 Inactive true ∷ nowhere ∷ []

-- frame 0 is charged to this group, frame 1 to /a/b, frame 2 to /a/c, and frame 3 is free
abbrev pub charged_to : ℕ → List FrameState
charged_to group =
    Head (record { group = group; order = 0 }) ∷ Head (record { group = 2; order = 0 })
    ∷ Head (record { group = 3; order = 0 }) ∷ Free ∷ []

-- a freeze of frame 0 missed
abbrev pub try_steps : Run
try_steps = zone_makes (Freeze 0 1) Missed ∷ []

-- a call that tried all, before a kill of /a/b
abbrev pub tried : Situation
tried = record {
  is_no_kill = false;
  ledger_before = full;
  ledger = full;
  links_before = first_of 2 false;
  links = first_of 2 false;
  frames = charged_to 2;
  killed = replicate 5 false;
  stock = record { group = Some 2; pages = 0; is_drained = true };
  misses_before = 0;
  misses = 1;
  steps = try_steps ++ note_oom_steps 1;
}

-- /a/b is the victim, and dies alone
abbrev pub of_b : Killed
of_b = record { victim = 2; killed_root = 2 }

-- nothing refuses this kill, if the machine is consistent, its charges add up, and the misses of other frames are right
abbrev pub MayKillIfAllIsTried : Type 0
MayKillIfAllIsTried =
    (table : KnownTable) (before after : KnownMachine) → HasRuns tried table before after
    → CountsMisses (call_in tried table before after)
    → IsConsistent (call_in tried table before after).table (call_in tried table before after).after
    → AreCharges full → MayKill asks_a_page (call_in tried table before after) of_b

-- the boot allows no kills
abbrev pub not_allowed : Situation
not_allowed = record tried { is_no_kill = true }

-- the limit has room
abbrev pub with_room : Situation
with_room = record tried {
  ledger_before = charged_with (tree 4 false false) 2 0;
  ledger = charged_with (tree 4 false false) 2 0;
}

-- the limit has room, but the pages of /a/b are counted twice
abbrev pub counted_twice : Situation
counted_twice = record with_room {
  ledger = record (charged_with (tree 4 false false) 2 0) {
    accounts = (charged_with (tree 4 false false) 2 0).accounts ++ with_pages 2 2 ∷ [];
  };
}

-- no `oom` is noted
abbrev pub not_noted : Situation
not_noted = record tried { steps = try_steps }

-- `oom` is noted at /a/b
abbrev pub noted_below : Situation
noted_below = record tried { steps = try_steps ++ note_oom_steps 2 }

-- the stock of /a/b isn't drained
abbrev pub not_drained : Situation
not_drained = record tried { stock = record { group = Some 2; pages = 1; is_drained = false } }

-- /d has four pages, those of a unit that isn't kept
abbrev pub beside_a_greater : Situation
beside_a_greater = record tried {
  ledger_before = charged_with (tree 2 false false) 2 4;
  ledger = charged_with (tree 2 false false) 2 4;
  links_before = first_of 2 false ++ replicate 4 nowhere;
  links = first_of 2 false ++ replicate 4 nowhere;
  frames = charged_to 2 ++ Head (record { group = 4; order = 2 }) ∷ Tail 4 ∷ Tail 4 ∷ Tail 4 ∷ [];
}

-- /a/b was killed before
abbrev pub killed_before : Situation
killed_before = record tried { killed = slice_set (replicate 5 false) 2 true }

-- which groups were killed is forgotten
abbrev pub forgotten_kills : Situation
forgotten_kills = record tried { killed = [] }

-- memory.oom.group of /a is set, and that of /a/b, or not
abbrev pub with_flags : (of_b : Bool) → Situation
with_flags of_b = record tried {
  ledger_before = charged_with (tree 2 true of_b) 2 0;
  ledger = charged_with (tree 2 true of_b) 2 0;
}

-- ---- a call that didn't try frame 0
-- no freeze of frame 0 missed
abbrev pub untried : Situation
untried = record tried { misses = 0; steps = note_oom_steps 1 }

-- the call is a round that freed no page, though one was wanted; nothing followed it
abbrev pub IsIdleRound : Transition KnownMachine → Type 0
IsIdleRound call =
    (cpu : KnownCpuLists)
    × MakesRound 1 1 0 Stays (transition call.table (visit_state call.before cpu) call.steps (visit_state call.after cpu))

-- one missed before the call
abbrev pub tried_before : Situation
tried_before = record untried { misses_before = 1; misses = 1 }

-- one is counted, but none is among the steps
abbrev pub miscounted : Situation
miscounted = record untried { misses = 1 }

-- the unit is dirty after the call
abbrev pub made_dirty : Situation
made_dirty = record untried { links = first_of 2 true }

-- the unit is kept for /d after the call
abbrev pub given_away : Situation
given_away = record untried {
  ledger = charged_with (tree 2 false false) 1 1;
  links = first_of 4 false;
  frames = charged_to 4;
}

-- memory.min of /a/b is written during the call
abbrev pub min_written : Situation
min_written = record untried { ledger = full_with_min (0 ∷ 0 ∷ 2 ∷ []) }

-- /d has a memory.min
abbrev pub min_of_a_stranger : Situation
min_of_a_stranger = record untried {
  ledger_before = full_with_min (0 ∷ 0 ∷ 0 ∷ 0 ∷ 3 ∷ []);
  ledger = full_with_min (0 ∷ 0 ∷ 0 ∷ 0 ∷ 3 ∷ []);
}

-- frame 1, which was dirty, is free after the call
abbrev pub freed_dirty : Situation
freed_dirty = record tried {
  ledger = charged_with (tree 2 false false) 1 0;
  links = kept_for 2 Inactive false ∷ nowhere ∷ kept_for 3 Inactive true ∷ nowhere ∷ [];
  frames = Head (record { group = 2; order = 0 }) ∷ Free ∷ Head (record { group = 3; order = 0 }) ∷ Free ∷ [];
}

-- a charge of this many pages to /a/b may kill nobody for this limit and need
abbrev pub MayNotAsk : (pages limited need : ℕ) → Type 0
MayNotAsk pages limited need = ¬ IsChargedBelow 2 pages (tree 2 false false) limited need

-- A unit was tried, or memory.min keeps it, if it was clean and in the limit's subtree when the call began and is still
-- kept. It helps nothing to call it dirty, or another group's, in the machine before the first kill.
abbrev pub UnitsAreTriedAsFound : Type 0
UnitsAreTriedAsFound =
    (group pages : ℕ) (table : KnownTable) (start : KnownMachine) (steps : Run) (killed : Killed)
    (last : WasLast (IsChargedBelow group pages) table start steps killed) (frame : ℕ) (home : Home)
    → home_of start.links frame ≡ Some home → (link_at start.links frame).is_dirty ≡ false
    → in_subtree last.now.ledger.groups last.limited home.owner ≡ true → HeadsKeptUnit last.now frame
    → (1 ≤ missed_in frame steps) ⊎ IsKeptByMin start.ledger last.now.ledger last.limited home.owner

-- ---- lists of steps
-- a step of CPU 2 before the kill of /a/b
abbrev pub kill_after_others : Run
kill_after_others = cpu_makes 2 (Get 0) Held ∷ note_oom_steps 1 ++ kill_steps 2

-- before the kill of /a/b its limit is raised
abbrev pub raised : Run
raised = note_oom_steps 1 ++ zone_makes (SetMax 1 (Some 9)) Done ∷ []

-- the kills of these groups
abbrev pub kills_of : List ℕ → Run
kills_of [] = []
kills_of (group ∷ others) = kill_steps group ++ kills_of others

-- these groups are killed for the limit of /a
abbrev pub killed_for_a : List ℕ → Run
killed_for_a groups = note_oom_steps 1 ++ kills_of groups

-- whenever a victim may be killed in this call, the groups that die with it are these
abbrev pub TheseMayDie : List ℕ → KnownTable → KnownMachine → Type 0
TheseMayDie set table start =
    (steps : Run) (now : KnownMachine) (killed : Killed)
    → IsLocalRun (lock_holder start) (local_of table start) steps (local_of table now)
    → MayKill asks_a_page (transition table start steps now) killed → kill_set now killed ≡ set

-- after these steps of the call no victim may be killed
abbrev pub NobodyMayDie : Run → KnownTable → KnownMachine → Type 0
NobodyMayDie steps table start =
    (now : KnownMachine) (killed : Killed)
    → IsLocalRun (lock_holder start) (local_of table start) steps (local_of table now)
    → ¬ MayKill asks_a_page (transition table start steps now) killed

-- if `Is` holds of a call's table and start, the call can't be these steps: some kill among them is rash
abbrev pub IsRash : (Is : KnownTable → KnownMachine → Type 0) → Run → Type 0
IsRash Is steps = (table : KnownTable) (start : KnownMachine) → Is table start → ¬ NoRashKill table asks_a_page start steps
