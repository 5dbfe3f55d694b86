-- What a typed call does to the boot behind a handle, and what it gives the host.
use Rattle.std.specs.Prelude.{◌≡◌, ◌≢◌, ◌⊎◌, ◌↔◌, ℕ, ◌%◌, ◌^◌, ◌<◌, ◌≤◌, List, [], Option, None, length}
use Rattle.std.specs.Borrow.{Bor}
use Rattle.boot_words.specs.Tables.{KnownTable}
use Rattle.group_charge.specs.Charges.{Ledger}
use Rattle.control_files.specs.Stat.{stat_text}
use Rattle.mem_system.specs.Outcomes.{shown_text}
use Rattle.mem_system.specs.declared.outcome.Outcome.{Outcome}
use Rattle.mem_system.specs.declared.outcome.Outcome.TheVariants as outcome
use Rattle.reply_texts.specs.declared.line_answer.LineAnswer.{LineAnswer}
use Rattle.reply_texts.specs.declared.line_answer.LineAnswer.TheVariants as answer
use Rattle.control_files.specs.Text.{longest_text}
use Rattle.script_lines.specs.declared.line.Command.{Command}
use Rattle.script_lines.specs.declared.line.Command.TheVariants as cmd
use Rattle.script_lines.specs.declared.line.FrameAct.TheVariants.{Dirty}
use Rattle.tempolemon_c.specs.declared.calls.Call.{Call}
use Rattle.tempolemon_c.specs.declared.calls.Call.TheVariants as call
use Rattle.tempolemon_c.specs.declared.calls.PinCheck.{PinCheck}
use Rattle.tempolemon_c.specs.declared.calls.PinCheck.TheVariants as check
use Rattle.group_tree.specs.Faults.{number_of}
use Rattle.group_tree.specs.declared.fault.Fault.TheVariants.{BadOrder, NotPinned, PinsFull}
use Rattle.control_files.specs.declared.file.File.{File}
use Rattle.tempolemon_c.specs.HandleCalls.{ChecksPin, GroupHasFiles, IsCpu, Means, NamesMissingFrame, NamesMissingGroup, RefusesCall, ServesLiveCommand}
use Rattle.tempolemon_c.specs.Known.{KnownLive}
use Rattle.script_replay.specs.ValueAnswers.{NamesItsGroups}
use Rattle.tempolemon_c.specs.Handles.{LiveBoot}
use Rattle.host_memory.specs.{OnHandle, PutsText, no_result, result_with, bad_cpu, bad_frame, bad_group, done, not_live, small_buffer}
use Rattle.host_memory.specs.declared.typed_result.TypedResult.{TypedResult}
use Rattle.tempolemon_c.specs.Kinds.{result_of, status_of}
use Rattle.tempolemon_c.specs.Statuses.{IsNotServedStatus, most_refusal}

-- the call was served as the command of a script that it means, with this answer
pub record AnswersCall (frames : KnownTable) (cpu : ℕ) (asked : Call)
    (from to : KnownLive)
    (answer : LineAnswer) : Type 0 where
  pub command : Command
  pub means : Means from.state.locked.machine.ledger.groups asked command
  pub serves : ServesLiveCommand frames cpu command from to answer

-- the same of the boot behind a handle
abbrev pub AnswersBehind : (cpu : ℕ) → Call → (before after : Option LiveBoot) → LineAnswer → Type 0
AnswersBehind cpu asked before after answer =
    OnHandle (λ frames from to. AnswersCall frames cpu asked from to answer) before after

-- the outcome isn't a text
abbrev pub IsPlainOutcome : Outcome → Type 0
IsPlainOutcome (outcome.Text group file) = ⊥
IsPlainOutcome (outcome.Stat stat) = ⊥
IsPlainOutcome other = Unit {0}

-- the answer isn't a text
abbrev pub HasNoText : LineAnswer → Type 0
HasNoText (answer.Served outcome) = IsPlainOutcome outcome
HasNoText other = Unit {0}

-- what a buffer gets of an outcome: the text of a file, by the charges, and of all else nothing
abbrev pub PutsOutcome : Ledger → Outcome → (old new : List ℕ) → Type 0
PutsOutcome ledger (outcome.Text group file) old new = PutsText (shown_text ledger group file) old new
PutsOutcome ledger (outcome.Stat stat) old new = PutsText (stat_text stat) old new
PutsOutcome ledger other old new = new ≡ old

-- what a buffer gets of an answer
abbrev pub PutsAnswer : Ledger → LineAnswer → (old new : List ℕ) → Type 0
PutsAnswer ledger (answer.Served outcome) old new = PutsOutcome ledger outcome old new
PutsAnswer ledger other old new = new ≡ old

-- the status, the result, and what the buffer gets are those of this answer, with texts by the charges that it left
pub record ReturnsAnswer (ledger : Ledger) (answer : LineAnswer) (status : ℕ) (out : TypedResult) (old new : List ℕ)
    : Type 0 where
  pub status_is : status ≡ status_of answer
  pub out_is : out ≡ result_of ledger answer
  pub buffer : PutsAnswer ledger answer old new

-- and these are those of a text
pub record ReturnsText (text : List ℕ) (status : ℕ) (out : TypedResult) (old new : List ℕ) : Type 0 where
  pub status_is : status ≡ done
  pub out_is : out ≡ result_with 4 (length text)
  pub buffer : PutsText text old new

-- the same of the answer of the boot
abbrev pub ReturnsValue : LineAnswer → (status : ℕ) → TypedResult → (old new : List ℕ) → LiveBoot → Type 0
ReturnsValue value status out old new boot =
    ReturnsAnswer boot.known.state.locked.machine.ledger value status out old new

-- the boot has the groups whose paths or files are the answer
abbrev pub HasGroupsBehind : LineAnswer → LiveBoot → Type 0
HasGroupsBehind value boot = NamesItsGroups boot.known.state.locked.machine.ledger value

-- the boot behind the handle has the group, and it isn't the root, which has no files
abbrev pub HasFileBehind : (group : ℕ) → File → LiveBoot → Type 0
HasFileBehind group file boot = GroupHasFiles group file boot.known

-- the call was served: the status, the result, and what the buffer gets are those of its answer
pub record ServesOnHandle (cpu : ℕ) (asked : Call) (before after : Option LiveBoot) (status : ℕ) (out : TypedResult)
    (old new : List ℕ) : Type 0 where
  pub answer : LineAnswer
  pub answers : AnswersBehind cpu asked before after answer
  pub status_is : status ≡ status_of answer
  pub out_is : out ≡ result_of answers.to.state.locked.machine.ledger answer
  pub buffer : PutsAnswer answers.to.state.locked.machine.ledger answer old new

-- the call names what the boot doesn't have, and nothing is done
abbrev pub RefusesBehind : (is_missing : KnownLive → Type 0) → (before after : Option LiveBoot) → Type 0
RefusesBehind is_missing before after =
    OnHandle (λ frames from to. RefusesCall (is_missing from) from to) before after

-- What a call with a buffer does, by its status. Up to the greatest number of a refusal it was served; above, nothing
-- was done. The CPU is looked for before a frame or a group
pub record CallsInto (cpu : ℕ) (asked : Call) (before after : Option LiveBoot) (status : ℕ) (out : TypedResult)
    (old new : List ℕ) : Type 0 where
  pub statuses : (status ≤ most_refusal) ⊎ IsNotServedStatus status
  pub none_live : (status ≡ not_live) ↔ (before ≡ None)
  pub served : status ≤ most_refusal → ServesOnHandle cpu asked before after status out old new
  pub no_cpu : status ≡ bad_cpu → RefusesBehind (λ from. ¬ IsCpu from.sizes.cpus cpu) before after
  pub no_frame : status ≡ bad_frame
      → RefusesBehind (λ from. IsCpu from.sizes.cpus cpu × NamesMissingFrame from.sizes.frames asked) before after
  pub no_group : status ≡ bad_group → RefusesBehind (λ from.
      IsCpu from.sizes.cpus cpu × NamesMissingGroup from.state.locked.machine.ledger.groups asked) before after
  pub stays : most_refusal < status → after ≡ before
  pub no_kind : most_refusal < status → out ≡ no_result
  pub buffer_stays : most_refusal < status → new ≡ old

-- what a call without a buffer does, by its status
abbrev pub CallsBehind : (cpu : ℕ) → Call → (before after : Option LiveBoot) (status : ℕ) (out : TypedResult) → Type 0
CallsBehind cpu asked before after status out = CallsInto cpu asked before after status out [] []

-- the frame of a result that names one: its number crosses in 32 bits
abbrev pub frame_of : TypedResult → ℕ
frame_of out = out.number % 2 ^ 32

-- An allocation was done and gave this result. Right after it the unit was noted as dirty, with this status; if that was
-- done, the unit is kept and dirty, and the result is that of the allocation.
pub record AllocatesThenNotes (cpu group order : ℕ) (before after : Option LiveBoot) (status : ℕ) (out : TypedResult)
    : Type 0 where
  pub between : Option LiveBoot
  pub given : TypedResult
  pub noted : TypedResult
  pub allocates : CallsBehind cpu (call.Alloc group order) before between done given
  pub notes : CallsBehind cpu (call.Script (cmd.OnFrame Dirty (frame_of given))) between after status noted
  pub is_given : status ≡ done → out ≡ given
  pub is_noted : status ≢ done → out ≡ noted

-- an allocation alone was made, and wasn't done
pub record AllocatesNone (cpu group order : ℕ) (before after : Option LiveBoot) (status : ℕ) (out : TypedResult)
    : Type 0 where
  pub allocates : CallsBehind cpu (call.Alloc group order) before after status out
  pub not_done : status ≢ done

-- what an allocation of a dirty unit does
abbrev pub AllocatesDirtyBehind : (cpu group order : ℕ) → (before after : Option LiveBoot) (status : ℕ)
    → TypedResult → Type 0
AllocatesDirtyBehind cpu group order before after status out =
    AllocatesNone cpu group order before after status out ⊎ AllocatesThenNotes cpu group order before after status out

-- the kind of a pin that is held
abbrev pub held_kind : ℕ
held_kind = 14

-- the result of a refusal that names no group
abbrev pub refusal_result : TypedResult
refusal_result = result_with 20 0

-- the CPU behind the handle may have one more pin, of a block of this order
abbrev pub MayPinBehind : (cpu order : ℕ) → Option LiveBoot → Type 0
MayPinBehind cpu order before = OnHandle (λ frames from to. ChecksPin cpu order check.May from to) before before

-- the status and the result of a call that asks this first
abbrev pub IsCheckResult : PinCheck → (status : ℕ) → TypedResult → Type 0
IsCheckResult check.May status out = ⊥
IsCheckResult check.NoCpu status out = (status ≡ bad_cpu) × (out ≡ no_result)
IsCheckResult check.PinsFull status out = (status ≡ number_of PinsFull) × (out ≡ refusal_result)
IsCheckResult check.BadOrder status out = (status ≡ number_of BadOrder) × (out ≡ refusal_result)

-- the CPU behind the handle may not have one more pin, of a block of this order, and this says so
pub record MayNotPin (cpu order : ℕ) (before : Option LiveBoot) (status : ℕ) (out : TypedResult) : Type 0 where
  pub why : PinCheck
  pub checks : OnHandle (λ frames from to. ChecksPin cpu order why from to) before before
  pub says : IsCheckResult why status out

-- there is no boot behind the handle; or a CPU of it may not have one more pin, of a block of this order
abbrev pub RefusesPinBehind : (cpu order : ℕ) → (before : Option LiveBoot) (status : ℕ) → TypedResult → Type 0
RefusesPinBehind cpu order before status out =
    ((before ≡ None) × (status ≡ not_live) × (out ≡ no_result)) ⊎ MayNotPin cpu order before status out

-- the CPU asked for a pin of the frame that this result names, and holds it; the result is that of the allocation
pub record PinsGiven (cpu : ℕ) (given : TypedResult) (before after : Option LiveBoot) (status : ℕ) (out : TypedResult)
    : Type 0 where
  pub asked : ℕ
  pub got : TypedResult
  pub pins : CallsBehind cpu (call.Script (cmd.Get (frame_of given))) before after asked got
  pub is_held : got.kind ≡ held_kind
  pub status_is : status ≡ done
  pub out_is : out ≡ given

-- the CPU asked for a pin of that frame, and doesn't hold it; the block was released again
pub record ReleasesGiven (cpu : ℕ) (given : TypedResult) (before after : Option LiveBoot) (status : ℕ)
    (out : TypedResult) : Type 0 where
  pub missed : Option LiveBoot
  pub asked : ℕ
  pub got : TypedResult
  pub released : ℕ
  pub left : TypedResult
  pub pins : CallsBehind cpu (call.Script (cmd.Get (frame_of given))) before missed asked got
  pub not_held : got.kind ≢ held_kind
  pub releases : CallsBehind cpu (call.Script (cmd.Release (frame_of given))) missed after released left
  pub status_is : status ≡ number_of NotPinned
  pub out_is : out ≡ refusal_result

-- an allocation was done and gave this result, and right after it the CPU asked for a pin
pub record AllocatesThenPins (cpu group order : ℕ) (before after : Option LiveBoot) (status : ℕ) (out : TypedResult)
    : Type 0 where
  pub between : Option LiveBoot
  pub given : TypedResult
  pub allocates : CallsBehind cpu (call.Alloc group order) before between done given
  pub then : PinsGiven cpu given between after status out ⊎ ReleasesGiven cpu given between after status out

-- What an allocation of a pinned block does. Whether the CPU may have one more pin is looked at first, and if not,
-- nothing is done.
abbrev pub AllocatesPinnedBehind : (cpu group order : ℕ) → (before after : Option LiveBoot) (status : ℕ)
    → TypedResult → Type 0
AllocatesPinnedBehind cpu group order before after status out =
    (RefusesPinBehind cpu order before status out × (after ≡ before))
    ⊎ MayPinBehind cpu order before
    × (AllocatesNone cpu group order before after status out ⊎ AllocatesThenPins cpu group order before after status out)

-- the buffer is refused as too small, and nothing was done
pub record IsTooSmall (before after : Option LiveBoot) (status : ℕ) (out : TypedResult) (old new : List ℕ)
    : Type 0 where
  pub status_is : status ≡ small_buffer
  pub stays : after ≡ before
  pub out_is : out ≡ no_result
  pub buffer_stays : new ≡ old

-- What a read of a file does. Whether the buffer has room for the longest text of a file is looked at first, whatever
-- the handle and the call
pub record ReadsIntoBuffer (path file : Bor (List ℕ)) (cpu : ℕ) (before after : Option LiveBoot) (status : ℕ)
    (out : TypedResult)
    (old new : List ℕ) : Type 0 where
  pub refused : length old < longest_text → IsTooSmall before after status out old new
  pub read : longest_text ≤ length old → CallsInto cpu (call.Script (cmd.Read path file)) before after status out old new
