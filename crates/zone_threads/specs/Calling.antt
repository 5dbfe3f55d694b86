-- What each call does to the CPU of a thread, by its answer, and by which steps of the run.
use Rattle.std.specs.Prelude.{◌≡◌, ◌≢◌, ◌+◌, ◌<◌, ◌≤◌, ◌⊎◌, ◌++◌, ◌∷◌, [], ℕ, zero, suc, true, List, length, None, Ok, Option}
use Rattle.std.specs.Prelude.{IsSomeAnd, Some}
use Rattle.frame_word.specs.declared.answers.Get.{Get}
use Rattle.frame_word.specs.declared.answers.Get.TheVariants.{Full, Held, Raced, Zero}
use Rattle.frame_word.specs.declared.answers.Put.{Put}
use Rattle.zone_blocks.specs.declared.config.Config.{Config}
use Rattle.group_tree.specs.{has_group, limit_of}
use Rattle.group_tree.specs.declared.fault.Fault.TheVariants.{BadLimit, BadOrder, NoFile, NotPinned, PinsFull}
use Rattle.group_charge.specs.Charges.{Ledger, current_of, peak_of, settings_of}
use Rattle.host_memory.specs.{IsMissingIn}
use Rattle.boot_words.specs.{GrewByAll, OthersFollow, RacesAt, own_past, zone_of_boot, KnownTable}
use Rattle.boot_words.specs.Pasts.{get_said}
use Rattle.step_rules.specs.State.{times, most_pins, most_references}
use Rattle.step_rules.specs.{Run, IsLegalRun, cpu_makes, references_on}
use Rattle.step_rules.specs.declared.step.Action.TheVariants as does
use Rattle.cpu_part.specs.{DropAnswers, FastAnswers, IfRaced, PinAnswers, UnpinAnswers, steps_of_drop, steps_of_fast, steps_of_get, steps_of_put}
use Rattle.cpu_part.specs.declared.answers.Dropped.{Dropped}
use Rattle.cpu_part.specs.declared.answers.Dropped.TheVariants.{Listed, NeedVisit}
use Rattle.cpu_part.specs.declared.answers.Fast.{Fast}
use Rattle.cpu_part.specs.declared.answers.Fast.TheVariants.{Got}
use Rattle.mem_system.specs.{IsOfZone, CpuInRun, ServesDirtyAlloc, SettlesCaller, IsServed, LockedState}
use Rattle.mem_system.specs.{IsShownText, ServesText}
use Rattle.mem_system.specs.declared.command.LockedCommand.TheVariants as cmd
use Rattle.mem_system.specs.declared.outcome.Outcome.{Outcome}
use Rattle.mem_system.specs.declared.outcome.Outcome.TheVariants.{Frame, Refused}
use Rattle.mem_system.specs.declared.setting.Setting.TheVariants.{Reclaim}
use Rattle.mem_system.specs.declared.text_command.TextCommand.TheVariants as command
use Rattle.zone_threads.specs.Homes.{KnownBehind, KnownHome, OnCpu, SeesBehind, ServesBehind, UnderLock}
use Rattle.zone_threads.specs.declared.calls.Call.{Call}
use Rattle.zone_threads.specs.declared.calls.Call.TheVariants as call
use Rattle.zone_threads.specs.declared.calls.CallAnswer.{CallAnswer}
use Rattle.zone_threads.specs.declared.calls.CallAnswer.TheVariants as answer
use Rattle.zone_threads.specs.declared.calls.GroupAct.{GroupAct}
use Rattle.zone_threads.specs.declared.calls.GroupAct.TheVariants as act
use Rattle.zone_threads.specs.declared.calls.GroupPages.{GroupPages}
use Rattle.zone_threads.specs.declared.calls.GroupPages.TheVariants as of_group
use Rattle.zone_threads.specs.declared.served.Missed.{Missed}
use Rattle.zone_threads.specs.declared.served.Missed.TheVariants as missed
use Rattle.zone_threads.specs.declared.calls.ReadCall.{ReadCall}
use Rattle.zone_threads.specs.declared.calls.ReadAnswer.{ReadAnswer}
use Rattle.zone_threads.specs.declared.calls.ReadAnswer.TheVariants as read

-- no limit is no amount to reclaim, and the root has no file
abbrev pub refused_amount : (group : ℕ) → Outcome
refused_amount zero = Refused NoFile
refused_amount (suc less) = Refused BadLimit

-- what was done for a group: a block was allocated, or a unit that was then noted as dirty, or a setting was made, or no
-- amount was to be reclaimed, which is refused: then the CPU was settled
abbrev pub ServesAct : KnownTable → (group : ℕ) → GroupAct → Outcome → (before after : LockedState) → Type 0
ServesAct frames group (act.Alloc order) outcome before after = IsServed frames (cmd.Alloc group order) outcome before after
ServesAct frames group (act.AllocDirty order) outcome before after = ServesDirtyAlloc frames group order outcome before after
ServesAct frames group (act.Write setting) outcome before after = IsServed frames (cmd.Write group setting) outcome before after
ServesAct frames group (act.Reclaim (Some pages)) outcome before after =
    IsServed frames (cmd.Write group (Reclaim pages)) outcome before after
ServesAct frames group (act.Reclaim None) outcome before after =
    (outcome ≡ refused_amount group) × SettlesCaller frames before after

-- the CPU may have one more pin
abbrev pub HasPinRoom : CpuInRun → Type 0
HasPinRoom cpu = length cpu.part.back + length cpu.part.pins < most_pins

-- the order is that of a block: 1 to 10
abbrev pub IsBlockOrder : ℕ → Type 0
IsBlockOrder order = (1 ≤ order) × (order ≤ 10)

-- a block of this order may be allocated and pinned for the CPU
abbrev pub MayPinBlock : (order : ℕ) → CpuInRun → Type 0
MayPinBlock order cpu = HasPinRoom cpu × IsBlockOrder order

-- the fast allocation got no frame
abbrev pub GetsNoFrame : Fast → Type 0
GetsNoFrame (Got frame) = ⊥
GetsNoFrame other = Unit {0}

-- a fast allocation for the group gave this answer, and the CPU's past grew by its steps
pub record AllocsFast (group : ℕ) (fast : Fast) (from to : CpuInRun) : Type 0 where
  pub answers : FastAnswers group fast from.last from.part to.last to.part
  pub run : GrewByAll (own_past from.past) (steps_of_fast from.part.number group fast from.last) (own_past to.past)

-- a drop of a fresh frame gave this answer, and the CPU's past grew by its steps
pub record DropsFast (frame : ℕ) (dropped : Dropped) (from to : CpuInRun) : Type 0 where
  pub answers : DropAnswers frame dropped from.last from.part to.last to.part
  pub run : GrewByAll (own_past from.past) (steps_of_drop from.part.number frame dropped from.last) (own_past to.past)

-- The CPU asked for a pin of the frame with this answer, and its past grew by this step. In a legal run Zero says that the
-- frame had no reference, and Full that it had 255 (`CountsReferences`). A race is no step: by others' steps the second
-- look at the frame's word found another one than the first.
pub record Pins (frames : KnownTable) (frame : ℕ) (got : Get) (from to : CpuInRun) : Type 0 where
  pub answers : PinAnswers frame got from.part to.part
  pub last : to.last ≡ from.last
  pub run : GrewByAll (own_past from.past) (steps_of_get from.part.number frame (Ok got)) (own_past to.past)
  pub raced : IfRaced got (RacesAt (zone_of_boot frames) (own_past from.past) frame)

-- the CPU asked for a pin of the frame, and has none more: the answer was Zero or Full, or the get raced
pub record MissesPin (frames : KnownTable) (frame : ℕ) (from to : CpuInRun) : Type 0 where
  pub got : Get
  pub not_held : got ≢ Held
  pub asks : Pins frames frame got from to

-- The CPU's get was a step, and found so many references on the frame: its past grew by steps of others to this legal run,
-- and then by the get.
pub record FindsReferences (frames : KnownTable) (frame count : ℕ) (got : Get) (from to : CpuInRun) : Type 0 where
  pub found : Run
  pub meanwhile : OthersFollow (own_past from.past).number (own_past from.past).seen found
  pub then : (own_past to.past).seen ≡ found ++ cpu_makes from.part.number (does.Get frame) (get_said got) ∷ []
  pub legal : IsLegalRun (zone_of_boot frames) found
  pub count_is : references_on (zone_of_boot frames) found frame ≡ count

-- why a get with this answer added no pin: the frame had no reference, or 255 of them; or others' steps changed its word
-- between the two looks of the get
abbrev pub IsMissedFor : KnownTable → (frame : ℕ) → Get → (from to : CpuInRun) → Type 0
IsMissedFor frames frame Held from to = ⊥
IsMissedFor frames frame Zero from to = FindsReferences frames frame 0 Zero from to
IsMissedFor frames frame Full from to = FindsReferences frames frame most_references Full from to
IsMissedFor frames frame (Raced found) from to = RacesAt (zone_of_boot frames) (own_past from.past) frame found

-- A block that begins at this frame was allocated for the group of this number. Right after it, under the same
-- lock, `Asks` leads from the CPU as the allocation left it to the CPU as it is now.
pub record AllocatesThen (frames : KnownTable) (group order frame : ℕ) (Asks : (from to : CpuInRun) → Type 0)
    (before after : LockedState) : Type 0 where
  pub between : LockedState
  pub allocates : IsServed frames (cmd.Alloc group order) (Frame frame) before between
  pub lock_kept : after.locked ≡ between.locked
  pub asks : Asks between.cpu after.cpu

-- an allocation of a pinned block, by its outcome: the CPU has a pin more, of the block; or no block was allocated, for
-- this cause
abbrev pub ServesPinned : KnownTable → (group order : ℕ) → Outcome → (before after : LockedState) → Type 0
ServesPinned frames group order (Frame frame) before after =
    AllocatesThen frames group order frame (Pins frames frame Held) before after
ServesPinned frames group order refusal before after = IsServed frames (cmd.Alloc group order) refusal before after

-- a block was allocated, no pin of it was had, for this cause, and it was released again
pub record GivesUpBlock (frames : KnownTable) (group order : ℕ) (before after : LockedState) : Type 0 where
  pub frame : ℕ
  pub missed : LockedState
  pub outcome : Outcome
  pub allocates : AllocatesThen frames group order frame (MissesPin frames frame) before missed
  pub cause : IsMissedFor frames frame allocates.asks.got allocates.between.cpu missed.cpu
  pub releases : IsServed frames (cmd.Release frame) outcome missed after

-- the CPU put a pin of the frame with this answer, and its past grew by this step
pub record Unpins (frame : ℕ) (put : Put) (from to : CpuInRun) : Type 0 where
  pub answers : UnpinAnswers frame put from.part to.part
  pub last : to.last ≡ from.last
  pub run : GrewByAll (own_past from.past) (steps_of_put from.part.number frame put) (own_past to.past)

-- The CPU had as many pins and back frames as it can have. It made no step, and its part stays, with what it saw of its
-- stock.
pub record RefusesPin (from to : CpuInRun) : Type 0 where
  pub full : length from.part.back + length from.part.pins ≡ most_pins
  pub part : to.part ≡ from.part
  pub last : to.last ≡ from.last
  pub past : own_past to.past ≡ own_past from.past

-- a fast allocation for the group got no frame; the CPU's part stays, and at most what it saw of its stock has changed
pub record MissesFast (group : ℕ) (from to : CpuInRun) : Type 0 where
  pub fast : Fast
  pub missed : GetsNoFrame fast
  pub allocs : AllocsFast group fast from to

-- the frame isn't a fresh one of the CPU, or its stock was drained, and at most what the CPU saw of that has changed
abbrev pub MissesDrop : (frame : ℕ) → (from to : CpuInRun) → Type 0
MissesDrop frame from to = ((times frame from.part.fresh ≡ 0) × (to ≡ from)) ⊎ DropsFast frame NeedVisit from to

-- `first` leads from the home as it was to the home between, and `rest` on from there
pub record Then (first rest : (from to : KnownHome) → Type 0) (from to : KnownHome) : Type 0 where
  pub between : KnownHome
  pub first_done : first from between
  pub rest_done : rest between to

-- behind the lock, no group had this number
abbrev pub NoGroupBehind : KnownTable → (group : ℕ) → (found left : KnownBehind) (from to : CpuInRun) → Type 0
NoGroupBehind frames group = SeesBehind frames (λ ledger. IsMissingIn ledger.groups group)

-- what an allocation of a pinned block does under the lock, by its answer
abbrev pub AllocatesPinned : KnownTable → (group order : ℕ) → CallAnswer → (found left : KnownBehind) (from to : CpuInRun)
    → Type 0
AllocatesPinned frames group order answer.NoGroup found left from to = NoGroupBehind frames group found left from to
AllocatesPinned frames group order (answer.Served outcome) found left from to =
    ServesBehind frames (ServesPinned frames group order outcome) found left from to
AllocatesPinned frames group order (answer.Refused NotPinned) found left from to =
    ServesBehind frames (GivesUpBlock frames group order) found left from to
AllocatesPinned frames group order returned found left from to = ⊥

-- What such a call does, by its answer. Whether the CPU may have one more pin is looked at first, then the order, and then
-- the lock is tried.
abbrev pub CallsAllocPinned : KnownTable → (group order : ℕ) → CallAnswer → (from to : KnownHome) → Type 0
CallsAllocPinned frames group order (answer.Refused PinsFull) from to =
    IsSomeAnd from.cpu (λ cpu. ¬ HasPinRoom cpu) × (to ≡ from)
CallsAllocPinned frames group order (answer.Refused BadOrder) from to =
    IsSomeAnd from.cpu HasPinRoom × (¬ IsBlockOrder order) × (to ≡ from)
CallsAllocPinned frames group order answer.Busy from to = IsSomeAnd from.cpu (MayPinBlock order) × (to ≡ from)
CallsAllocPinned frames group order returned from to =
    IsSomeAnd from.cpu (MayPinBlock order) × UnderLock (AllocatesPinned frames group order returned) from to

-- a number of pages that a group has; None for no limit
abbrev pub group_pages : GroupPages → Ledger → ℕ → Option ℕ
group_pages of_group.Usage ledger group = Some (current_of ledger group)
group_pages of_group.Peak ledger group = Some (peak_of ledger group)
group_pages of_group.Max ledger group = limit_of ledger.groups group
group_pages of_group.High ledger group = (settings_of ledger group).high

-- what is said of the pages of the group of this number
abbrev pub SaysPages : Ledger → (group : ℕ) → GroupPages → CallAnswer → Type 0
SaysPages ledger group which answer.NoGroup = IsMissingIn ledger.groups group
SaysPages ledger group which (answer.Pages pages) =
    (has_group ledger.groups group ≡ true) × (group_pages which ledger group ≡ Some pages)
SaysPages ledger group which answer.NoLimit =
    (has_group ledger.groups group ≡ true) × (group_pages which ledger group ≡ None)
SaysPages ledger group which other = ⊥

-- it was said of what lay behind the lock
abbrev pub ReadsPages : KnownTable → (group : ℕ) → GroupPages → CallAnswer → (found left : KnownBehind)
    (from to : CpuInRun) → Type 0
ReadsPages frames group which said = SeesBehind frames (λ ledger. SaysPages ledger group which said)

-- What a get does to the CPU, by its answer. Whether the zone has the frame is looked at first.
abbrev pub CallsGet : KnownTable → (frame : ℕ) → CallAnswer → (from to : CpuInRun) → Type 0
CallsGet frames frame answer.NoFrame from to = (frames.frames ≤ frame) × (to ≡ from)
CallsGet frames frame (answer.Got got) from to = Pins frames frame got from to
CallsGet frames frame (answer.Refused fault) from to = (frame < frames.frames) × (fault ≡ PinsFull) × RefusesPin from to
CallsGet frames frame returned from to = ⊥

-- the same of a put
abbrev pub CallsPut : KnownTable → (frame : ℕ) → CallAnswer → (from to : CpuInRun) → Type 0
CallsPut frames frame answer.NoFrame from to = (frames.frames ≤ frame) × (to ≡ from)
CallsPut frames frame (answer.Put put) from to = Unpins frame put from to
CallsPut frames frame (answer.Refused fault) from to =
    (frame < frames.frames) × (fault ≡ NotPinned) × (times frame from.part.pins ≡ 0) × (to ≡ from)
CallsPut frames frame returned from to = ⊥

-- what is so, if nothing was allocated under the lock for this reason
abbrev pub IfMissing : KnownTable → (group : ℕ) → Missed → (from to : KnownHome) → Type 0
IfMissing frames group missed.NoGroup from to = UnderLock (NoGroupBehind frames group) from to
IfMissing frames group missed.Busy from to = to ≡ from

-- A frame was asked for a number that no group has. A number for which the zone has no room is refused at once.
abbrev pub MissesGroup : KnownTable → (group : ℕ) → (from to : KnownHome) → Type 0
MissesGroup frames group from to =
    ((from.sizes.choices.groups ≤ group) × (to ≡ from))
    ⊎ Then (OnCpu (MissesFast group)) (UnderLock (NoGroupBehind frames group)) from to

-- What each call does, by its answer. The CPU's past of the run grows by the steps of a fast call, then by those of a
-- visit (`IsServed.run`), and by no others of its own. Each visit finds the sizes of the zone's boot, and the home shows what
-- it found and left (`UnderLock`). Whether the zone has the frame is looked at first: before the lock is tried, and before the
-- CPU's pins.
abbrev pub Calls : KnownTable → Call → (from to : KnownHome) → CallAnswer → Type 0
Calls frames (call.Visit asked) from to answer.Busy = IsOfZone frames asked × (to ≡ from)
Calls frames (call.Visit asked) from to answer.NoFrame = (¬ IsOfZone frames asked) × (to ≡ from)
Calls frames (call.Visit asked) from to (answer.Served outcome) =
    UnderLock (ServesBehind frames (ServesText frames asked outcome)) from to
Calls frames (call.AllocFrame group) from to answer.Busy =
    (group < from.sizes.choices.groups) × OnCpu (MissesFast group) from to
Calls frames (call.AllocFrame group) from to answer.NoGroup = MissesGroup frames group from to
Calls frames (call.AllocFrame group) from to (answer.Taken frame) =
    OnCpu (AllocsFast group (Got frame)) from to
Calls frames (call.AllocFrame group) from to (answer.Served outcome) =
    Then (OnCpu (MissesFast group)) (UnderLock (ServesBehind frames (ServesAct frames group (act.Alloc 0) outcome)))
    from to
Calls frames (call.ForGroup group asked) from to answer.Busy = to ≡ from
Calls frames (call.ForGroup group asked) from to answer.NoGroup =
    UnderLock (NoGroupBehind frames group) from to
Calls frames (call.ForGroup group asked) from to (answer.Served outcome) =
    UnderLock (ServesBehind frames (ServesAct frames group asked outcome)) from to
Calls frames (call.AllocPinned group order) from to returned =
    CallsAllocPinned frames group order returned from to
Calls frames (call.ReadPages group which) from to answer.Busy = to ≡ from
Calls frames (call.ReadPages group which) from to said = UnderLock (ReadsPages frames group which said) from to
Calls frames (call.Release frame) from to answer.Busy =
    (frame < frames.frames) × OnCpu (MissesDrop frame) from to
Calls frames (call.Release frame) from to answer.NoFrame = (frames.frames ≤ frame) × (to ≡ from)
Calls frames (call.Release frame) from to answer.Listed = OnCpu (DropsFast frame Listed) from to
Calls frames (call.Release frame) from to (answer.Served outcome) =
    Then (OnCpu (MissesDrop frame)) (UnderLock (ServesBehind frames (ServesText frames (command.Release frame) outcome)))
    from to
Calls frames (call.Get frame) from to returned = OnCpu (CallsGet frames frame returned) from to
Calls frames (call.Put frame) from to returned = OnCpu (CallsPut frames frame returned) from to
Calls frames call.Settle from to answer.Busy = to ≡ from
Calls frames call.Settle from to answer.Settled =
    UnderLock (ServesBehind frames (SettlesCaller frames)) from to
Calls frames asked from to returned = ⊥

-- a read was served, and this is the text of the file that its outcome shows
pub record ShowsText (frames : KnownTable) (asked : ReadCall) (text : List ℕ) (before after : LockedState) : Type 0 where
  pub outcome : Outcome
  pub serves : ServesText frames (command.Read asked.path asked.file) outcome before after
  pub is_text : IsShownText after.locked.machine.ledger outcome text

-- what a read of a file does under the lock, by its answer
abbrev pub ReadsBehind : KnownTable → ReadCall → ReadAnswer → (found left : KnownBehind) (from to : CpuInRun) → Type 0
ReadsBehind frames asked read.Busy found left from to = ⊥
ReadsBehind frames asked (read.Text text) found left from to =
    ServesBehind frames (ShowsText frames asked text) found left from to
ReadsBehind frames asked (read.Refused fault) found left from to =
    ServesBehind frames (ServesText frames (command.Read asked.path asked.file) (Refused fault)) found left from to

-- what a read of a file does, by its answer
abbrev pub AnswersRead : KnownTable → ReadCall → (from to : KnownHome) → ReadAnswer → Type 0
AnswersRead frames asked from to read.Busy = to ≡ from
AnswersRead frames asked from to answer = UnderLock (ReadsBehind frames asked answer) from to
