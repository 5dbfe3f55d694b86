-- What contracts see of the machine, and what always holds of it.
use Rattle.std.specs.Prelude.{◌≡◌, ◌≢◌, ℕ, ◌+◌, ◌-◌, ◌<◌, ◌≤◌, ◌==◌, Bool, false, Option, Some, None, is_some, IfSome, List, [], ◌∷◌, length, min, replicate, slice_set, if◌then◌else◌}
use Rattle.std.specs.List.{slice_index_or}
use Rattle.zone_blocks.specs.declared.block.Block.{Block}
use Rattle.zone_blocks.specs.Areas.{AreMaximalBlocks}
use Rattle.group_charge.specs.{Ledger, pages_of, current_of, initial_ledger, with_new_group, KnownNotes, detail_noted, forgotten, no_notes, noted}
use Rattle.group_tree.specs.{most_groups, room_of, IsLeastFreeNumber, IsLowestOver}
use Rattle.lru_lists.specs.declared.record.Link.{Link}
use Rattle.lru_lists.specs.declared.record.Home.{Home}
use Rattle.lru_lists.specs.declared.record.Entry.{Entry}
use Rattle.lru_lists.specs.declared.record.LruList.{LruList}
use Rattle.lru_lists.specs.declared.record.LruList.TheVariants.{Inactive, Active}
use Rattle.lru_lists.specs.declared.lru.Lru.{Lru}
use Rattle.lru_lists.specs.declared.queue.Queue.{Queue}
use Rattle.lru_lists.specs.{link_at, AreNowhere, AllLinked, entries_of}
use Rattle.stock_word.specs.Stock.{group_base}
use Rattle.step_rules.specs.{told_pages, Part, one_if, sum_to, state_of}
use Rattle.step_rules.specs.State.{State}
use Rattle.boot_words.specs.{hide, KnownPasts, own_past, zone_of_boot, seat_at_first, KnownTable}
use Rattle.cpu_part.specs.Cpus.{KnownCpuLists}
use Rattle.mem_machine.specs.declared.frame_state.FrameState.{FrameState}
use Rattle.mem_machine.specs.declared.frame_state.FrameState.TheVariants.{Free}
use Rattle.mem_machine.specs.declared.counts.Counts.{Counts}
use Rattle.step_watch.specs.Watched.{KnownWatch}
use Rattle.mem_machine.specs.Noted.{KnownRun}
use Rattle.group_charge.specs.declared.note.Note.{Note}
-- the units freed are the last puts, the freezes and the killed fresh frames together, or the greatest count if that
-- is less
pub use Rattle.mem_machine.specs.Counts.{BalancesCounts}
use Rattle.mem_machine.specs.Counts.{no_counts}
use Rattle.mem_machine.specs.FrameStates.{AreUnits, frame_state_at, free_of, phase_hidden, frame_state_group, head_group_of, one_if_is}

-- The machine holds the free areas, a record for each frame, and the groups with their charges. It holds the links of
-- all kept units, two lists for each group number, and which group numbers are killed. It counts how units ended, how
-- many were freed and how many were missed. It holds the notes since the last `forget_notes`, and whether a reclaim
-- begins with a pass of shares. It holds the pasts of the zone and of the lock's holder, which grow by
-- each step, and the watch, which takes each step right after it.
pub record KnownMachine : Type 0 where
  pub blocks : List Block
  pub frame_states : List FrameState
  pub ledger : Ledger
  pub links : List Link
  pub lists : List Lru
  pub killed : List Bool
  pub counts : Counts
  pub notes : KnownNotes
  pub is_proportional : Bool
  pub run : KnownRun

-- the machine after one more note
abbrev pub with_note : KnownMachine → Note → KnownMachine
with_note machine note = record machine { notes = noted machine.notes note }

-- the machine with one detail more, if details are noted
abbrev pub with_detail : KnownMachine → Note → KnownMachine
with_detail machine note = record machine { notes = detail_noted machine.notes note }

-- the machine after all notes are forgotten
abbrev pub without_notes : KnownMachine → KnownMachine
without_notes machine = record machine { notes = forgotten machine.notes }

-- the machine with details noted from now on, or not
abbrev pub with_detail_notes : KnownMachine → (is_on : Bool) → KnownMachine
with_detail_notes machine is_on = record machine { notes = record machine.notes { notes_details = is_on } }

-- the machine with another run
abbrev pub with_run : KnownMachine → KnownRun → KnownMachine
with_run machine run = record machine { run = run }

-- the machine with other pasts
abbrev pub with_past : KnownMachine → KnownPasts → KnownMachine
with_past machine past = record machine { run = record (machine.run) { past = past } }

-- the machine with another watch
abbrev pub with_watch : KnownMachine → KnownWatch → KnownMachine
with_watch machine watch = record machine { run = record (machine.run) { watch = watch } }

-- an empty list
abbrev pub no_queue : Queue
no_queue = record { oldest = None; newest = None; length = 0 }

-- two empty lists whose owner is no group number
abbrev pub no_lists : Lru
no_lists = record { owner = most_groups; inactive = no_queue; active = no_queue }

-- the two lists of the group of this number
abbrev pub lists_at : List Lru → ℕ → Lru
lists_at lists group = slice_index_or lists group no_lists

-- the units of one of the group's lists, from the oldest to the newest
abbrev pub entries_in : KnownMachine → ℕ → LruList → List Entry
entries_in machine group list = entries_of machine.links (lists_at machine.lists group) list

-- the inactive units of the group, from the oldest to the newest
abbrev pub inactive_in : KnownMachine → ℕ → List Entry
inactive_in machine group = entries_in machine group Inactive

-- the active units of the group, from the oldest to the newest
abbrev pub active_in : KnownMachine → ℕ → List Entry
active_in machine group = entries_in machine group Active

-- the list that the frame is on, if it heads a kept unit
abbrev pub home_of : List Link → ℕ → Option Home
home_of links frame = (link_at links frame).home

-- the frame heads a kept unit of this machine: it is on a list
abbrev pub HeadsKeptUnit : KnownMachine → ℕ → Type 0
HeadsKeptUnit machine frame = home_of machine.links frame ≢ None

-- the lists of all groups: the links between units, and by number the two lists of each group
pub record GroupLists : Type 0 where
  pub links : List Link
  pub lists : List Lru

-- the lists that these links and these list ends make up
abbrev pub group_lists : List Link → List Lru → GroupLists
group_lists links lists = record { links = links; lists = lists }

-- the lists of all groups of the machine
abbrev pub lists_of : KnownMachine → GroupLists
lists_of machine = group_lists machine.links machine.lists

-- the lists of every other group are unchanged: they have the same units in the same order, with the same marks and
-- dirt
abbrev pub OthersStay : ℕ → GroupLists → GroupLists → Type 0
OthersStay group before after = (other : ℕ) (list : LruList) → other < most_groups → other ≢ group
    → entries_of after.links (lists_at after.lists other) list
    ≡ entries_of before.links (lists_at before.lists other) list

-- each frame that is on no list keeps its link, mark and dirt included
abbrev pub UnlistedStay : List Link → List Link → Type 0
UnlistedStay before after =
    (frame : ℕ) → home_of before frame ≡ None → link_at after frame ≡ link_at before frame

-- the group of this number is killed
abbrev pub is_killed : List Bool → ℕ → Bool
is_killed killed group = slice_index_or killed group false

-- how many frames are charged to the group itself
abbrev pub frames_charged : List FrameState → ℕ → ℕ
frames_charged frame_states group = sum_to (length frame_states)
    (λ frame. one_if_is group (frame_state_group (frame_state_at frame_states frame)))

-- ---- what the run says

-- what the zone's past left, with every CPU's own part hidden
abbrev pub left_by : KnownTable → KnownPasts → State
left_by table past = hide (state_of (zone_of_boot table) (own_past past).seen)

-- the part of this CPU, as the machine's past left it, without its lists
abbrev pub part_at : KnownTable → KnownMachine → ℕ → Part
part_at table machine cpu = (left_by table machine.run.past).parts cpu

-- the group of the CPU's stock
abbrev pub stock_group : KnownTable → KnownMachine → ℕ → Option ℕ
stock_group table machine cpu = (part_at table machine cpu).stock.group

-- the pages booked to a CPU's stock if that is of the group, else 0
abbrev pub booked : ℕ → Part → ℕ
booked group part = if one_if_is group part.stock.group == 0 then 0 else part.book

-- how many pages are booked to the stocks of the group itself
abbrev pub pages_booked : ℕ → (ℕ → Part) → ℕ → ℕ
pages_booked cpus parts group = sum_to (cpus + 1) (λ cpu. booked group (parts cpu))

-- The machine's fields are what this state shows. The record of each frame is its phase. The zone has one reference on
-- each frame that is on a list, and no other. No page is pending, unreported or unabsorbed, and the pages booked to
-- each stock fit a stock word. The own charge of a group is the frames charged to it and the pages booked to its
-- stocks.
pub record IsShownBy (table : KnownTable) (machine : KnownMachine) (state : State) : Type 0 where
  pub groups : state.groups ≡ machine.ledger.groups
  pub killed : (group : ℕ) → state.killed group ≡ is_killed machine.killed group
  pub phases : (frame : ℕ) → state.phases frame ≡ phase_hidden (frame_state_at machine.frame_states frame)
  pub references : (frame : ℕ) → state.references 0 frame ≡ one_if (is_some (home_of machine.links frame))
  pub settled : (group : ℕ) → state.pending group ≡ 0
  pub absorbed : (cpu : ℕ) → told_pages (state.parts cpu) ≡ 0
  pub bounded : (cpu : ℕ) → (state.parts cpu).book < group_base
  pub charged : (group : ℕ)
      → pages_of machine.ledger group
      ≡ frames_charged machine.frame_states group + pages_booked table.cpus state.parts group

-- ---- what always holds

-- the list that the frame is on, if any, is of the group whose unit the frame heads, one of those that there is room for
abbrev pub FitsFrameState : (room : ℕ) → Option Home → FrameState → Type 0
FitsFrameState room home frame_state =
    IfSome home (λ list. (list.owner < room) × (head_group_of frame_state ≡ Some list.owner))

-- there are as many records and links as the table has frames, and as many lists and marks as there is room for groups
pub record AreSized (table : KnownTable) (machine : KnownMachine) : Type 0 where
  pub frame_states : length machine.frame_states ≡ table.frames
  pub links : length machine.links ≡ table.frames
  pub lists : length machine.lists ≡ room_of machine.ledger.groups
  pub killed : length machine.killed ≡ room_of machine.ledger.groups

-- The machine is consistent. Its sizes are those of the table and of the tree. The free areas are the maximal blocks of
-- the free frames. Each frame's record agrees with the lists. The charged frames make up units. All lists agree with the
-- links. The units freed are the last puts, freezes and killed fresh frames together, or the greatest count if that is
-- less. A reclaim begins with a pass of shares if and only if the boot chose that. All else is what the machine's past left.
pub record IsConsistent (table : KnownTable) (machine : KnownMachine) : Type 0 where
  pub sizes : AreSized table machine
  pub areas : AreMaximalBlocks (free_of machine.frame_states) machine.blocks
  pub frame_states : (frame : ℕ) → frame < table.frames
      → FitsFrameState (room_of machine.ledger.groups) (home_of machine.links frame)
      (frame_state_at machine.frame_states frame)
  pub units : AreUnits machine.frame_states
  pub lists : AllLinked machine.links machine.lists
  pub balances : BalancesCounts machine.counts
  pub choice : machine.is_proportional ≡ table.choices.is_proportional
  pub shown : IsShownBy table machine (left_by table machine.run.past)

-- a group of this path was made: it has the least free number, and it isn't killed
pub record AddsGroup (number : ℕ) (path : List ℕ) (before after : KnownMachine) : Type 0 where
  pub least : IsLeastFreeNumber before.ledger.groups number
  pub machine : after ≡ record before {
    ledger = with_new_group before.ledger number path;
    killed = slice_set before.killed number false;
    run = after.run;
  }

-- group `lowest` is the lowest on the group's path whose limit has no room for this many more pages
abbrev pub LacksRoom : KnownMachine → ℕ → ℕ → ℕ → Type 0
LacksRoom machine group pages lowest =
    IsLowestOver machine.ledger.groups (current_of machine.ledger) group pages lowest

-- A visit state is the machine with the part of the CPU that holds its lock. A call of the machine leads from one visit
-- state to another.
pub record VisitState : Type 0 where
  pub machine : KnownMachine
  pub cpu : KnownCpuLists

-- the visit state of this machine and this part
abbrev pub visit_state : KnownMachine → KnownCpuLists → VisitState
visit_state machine cpu = record { machine = machine; cpu = cpu }

-- nothing of the visit state changed
pub record VisitStateStays (before after : VisitState) : Type 0 where
  pub machine : after.machine ≡ before.machine
  pub cpu : after.cpu ≡ before.cpu

-- `First` leads from the visit state before to a visit state between, and `Rest` leads from there to the visit state
-- after
pub record FirstThen (First Rest : VisitState → VisitState → Type 0) (before after : VisitState) : Type 0 where
  pub between : VisitState
  pub first : First before between
  pub rest : Rest between after

-- the relation leads on from visit state to visit state, once for each of these frames, in this order
abbrev pub OneByOne : (ℕ → VisitState → VisitState → Type 0) → List ℕ → VisitState → VisitState → Type 0
OneByOne IsDone [] before after = VisitStateStays before after
OneByOne IsDone (frame ∷ others) before after = FirstThen (IsDone frame) (OneByOne IsDone others) before after

-- a CPU of this number exists
abbrev pub IsCpuOf : KnownTable → ℕ → Type 0
IsCpuOf table cpu = (1 ≤ cpu) × (cpu ≤ table.cpus)

-- the room of a boot that asked for so many groups: 1 at least, and `most_groups` at most
abbrev pub boot_room : ℕ → ℕ
boot_room groups = min groups most_groups - 1 + 1

-- the ledger of a new boot with room for so many groups: the root alone, with nothing charged and nothing set
abbrev pub boot_ledger : ℕ → Ledger
boot_ledger groups = initial_ledger (min groups most_groups - 1)

-- The machine of a new boot. All frames are free and on no list, only the root exists, and no group is killed. All
-- counts are 0, and nothing is noted. No step was made yet.
pub record IsFirst (table : KnownTable) (machine : KnownMachine) : Type 0 where
  pub frame_states : machine.frame_states ≡ replicate table.frames Free
  pub ledger : machine.ledger ≡ boot_ledger table.choices.groups
  pub nowhere : AreNowhere machine.links
  pub killed : machine.killed ≡ replicate (boot_room table.choices.groups) false
  pub counts : machine.counts ≡ no_counts
  pub notes : machine.notes ≡ no_notes
  pub is_proportional : machine.is_proportional ≡ table.choices.is_proportional
  pub past : machine.run.past ≡ seat_at_first table.table 0
