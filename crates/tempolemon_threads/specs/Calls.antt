-- What the calls on a CPU's handle do, and what they give the host.
use Rattle.std.specs.Prelude.{◌≡◌, ◌⊎◌, ℕ, zero, suc, ◌<◌, ◌≤◌, ◌^◌, nat_lt, if◌then◌else◌, List, Option, None, Some, IsSome, length}
use Rattle.group_tree.specs.Faults.{number_of}
use Rattle.group_tree.specs.declared.fault.Fault.TheVariants.{NoGroup}
use Rattle.control_files.specs.Text.{longest_text}
use Rattle.mem_system.specs.declared.text_command.TextCommand.{TextCommand}
use Rattle.mem_system.specs.declared.text_command.TextCommand.TheVariants as cmd
use Rattle.zone_threads.specs.{Calls, AnswersRead, ReadsText}
use Rattle.zone_threads.specs.declared.calls.Call.{Call}
use Rattle.zone_threads.specs.declared.calls.Call.TheVariants.{AllocFrame, ForGroup, Visit}
use Rattle.zone_threads.specs.declared.calls.CallAnswer.{CallAnswer}
use Rattle.zone_threads.specs.declared.calls.GroupAct.TheVariants.{Alloc}
use Rattle.zone_threads.specs.declared.calls.ReadAnswer.{ReadAnswer}
use Rattle.zone_threads.specs.declared.calls.ReadAnswer.TheVariants as read
use Rattle.zone_threads.specs.declared.calls.ReadCall.{ReadCall}
use Rattle.zone_threads.specs.declared.texts.TextAnswer.{TextAnswer}
use Rattle.zone_threads.specs.declared.texts.TextAnswer.TheVariants as text
use Rattle.zone_threads.specs.declared.texts.TextCall.{TextCall}
use Rattle.zone_threads.specs.declared.texts.TextCall.TheVariants.{Units}
use Rattle.host_memory.specs.{ExceedsBuffer, FillsBuffer, OnHandle, PutsText, no_result, done, no_memory, not_live, small_buffer}
use Rattle.host_memory.specs.declared.typed_result.TypedResult.{TypedResult}
use Rattle.tempolemon_threads.specs.Kinds.{read_result, read_status, call_result_of, call_status_of}
use Rattle.tempolemon_threads.specs.Statuses.{busy}
use Rattle.tempolemon_threads.specs.Handles.{LedHome}

-- the handle leads nowhere, and nothing was done
pub record IsNotLive (before after : Option LedHome) (status : ℕ) (out : TypedResult) : Type 0 where
  pub was : before ≡ None
  pub is : after ≡ None
  pub status_is : status ≡ not_live
  pub out_is : out ≡ no_result

-- the call was answered: `Calls` says what each answer means for the CPU, and `call_status_of` and `call_result_of`
-- which status
-- and result go with it
pub record AnswersPart (asked : Call) (before after : Option LedHome) (status : ℕ) (out : TypedResult) : Type 0 where
  pub answer : CallAnswer
  pub calls : OnHandle (λ frames from to. Calls frames asked from to answer) before after
  pub status_is : status ≡ call_status_of answer
  pub out_is : out ≡ call_result_of answer

-- what a call does
abbrev pub CallsPart : Call → (before after : Option LedHome) (status : ℕ) (out : TypedResult) → Type 0
CallsPart asked before after status out = IsNotLive before after status out ⊎ AnswersPart asked before after status out

-- so many pages as a limit: 2^32 pages or more are none
abbrev pub limit_of_pages : ℕ → Option ℕ
limit_of_pages pages = if nat_lt pages (2 ^ 32) then Some pages else None

-- what an allocation does: a single frame may need no lock
abbrev pub AllocsPart : (group order : ℕ) (before after : Option LedHome) (status : ℕ) (out : TypedResult) → Type 0
AllocsPart group zero before after status out = CallsPart (AllocFrame group) before after status out
AllocsPart group (suc less) before after status out = CallsPart (ForGroup group (Alloc (suc less))) before after status out

-- a command with these texts was given
pub record GivesCommand (is_asked : TextCommand → Type 0) (before after : Option LedHome) (status : ℕ) (out : TypedResult)
    : Type 0 where
  pub asked : TextCommand
  pub is : is_asked asked
  pub calls : CallsPart (Visit asked) before after status out

-- the command makes the group of this path
abbrev pub IsMkdirCommand : (path : List ℕ) → TextCommand → Type 0
IsMkdirCommand path (cmd.Mkdir named) = named.now ≡ path
IsMkdirCommand path other = ⊥

-- the command removes the group of this path
abbrev pub IsRmdirCommand : (path : List ℕ) → TextCommand → Type 0
IsRmdirCommand path (cmd.Rmdir named) = named.now ≡ path
IsRmdirCommand path other = ⊥

-- the command writes this value to this file of the group of this path
abbrev pub IsWriteCommand : (path file value : List ℕ) → TextCommand → Type 0
IsWriteCommand path file value (cmd.Write named in_file text) =
    (named.now ≡ path) × ((in_file.now ≡ file) × (text.now ≡ value))
IsWriteCommand path file value other = ⊥

-- what a buffer gets of a read
abbrev pub PutsRead : ReadAnswer → (old new : List ℕ) → Type 0
PutsRead (read.Text text) old new = PutsText text old new
PutsRead other old new = new ≡ old

-- the read was answered, and the buffer has the text
pub record ReadsPart (path file : List ℕ) (before after : Option LedHome) (status : ℕ) (out : TypedResult)
    (old new : List ℕ) : Type 0 where
  pub asked : ReadCall
  pub path_is : asked.path.now ≡ path
  pub file_is : asked.file.now ≡ file
  pub answer : ReadAnswer
  pub reads : OnHandle (λ frames from to. AnswersRead frames asked from to answer) before after
  pub status_is : status ≡ read_status answer
  pub out_is : out ≡ read_result answer
  pub buffer : PutsRead answer old new

-- the buffer is refused as too small, and nothing was done
pub record RefusesSmallBuffer (before after : Option LedHome) (status : ℕ) (out : TypedResult) (old new : List ℕ)
    : Type 0 where
  pub status_is : status ≡ small_buffer
  pub stays : after ≡ before
  pub out_is : out ≡ no_result
  pub buffer_stays : new ≡ old

-- a read into a buffer with room for the longest text of a file: the handle leads nowhere, or the read was answered
abbrev pub ReadsIfLive : (path file : List ℕ) (before after : Option LedHome) (status : ℕ) (out : TypedResult)
    (old new : List ℕ) → Type 0
ReadsIfLive path file before after status out old new =
    (IsNotLive before after status out × (new ≡ old)) ⊎ ReadsPart path file before after status out old new

-- What a read of a file does. Whether the buffer has room for the longest text of a file is looked at first, whatever
-- the handle and the call
pub record ReadsInto (path file : List ℕ) (before after : Option LedHome) (status : ℕ) (out : TypedResult)
    (old new : List ℕ) : Type 0 where
  pub refused : length old < longest_text → RefusesSmallBuffer before after status out old new
  pub read : longest_text ≤ length old → ReadsIfLive path file before after status out old new

-- The buffer and the length of a text, by the answer. If the buffer is too small for a text, the length is what it
-- needs.
abbrev pub GivesText : TextAnswer → (status : ℕ) (old new : List ℕ) (written : ℕ) → Type 0
GivesText (text.Text answer) status old new written =
    ((status ≡ done) × FillsBuffer (λ shown. shown ≡ answer.items) old new written)
    ⊎ ((status ≡ small_buffer) × (new ≡ old) × ExceedsBuffer (λ shown. shown ≡ answer.items) old written)
GivesText text.NoGroup status old new written = (status ≡ number_of NoGroup) × (new ≡ old) × (written ≡ 0)
GivesText text.NoMemory status old new written = (status ≡ no_memory) × (new ≡ old) × (written ≡ 0)

-- a text was asked for
pub record ShowsPart (asked : TextCall) (before after : Option LedHome) (status : ℕ) (old new : List ℕ) (written : ℕ)
    : Type 0 where
  pub answer : TextAnswer
  pub shows : OnHandle (λ frames. ReadsText frames asked answer) before after
  pub gives : GivesText answer status old new written

-- the handle leads nowhere; or it leads to a zone, and another thread has the lock
abbrev pub IsUnserved : (before : Option LedHome) (status : ℕ) → Type 0
IsUnserved before status = ((before ≡ None) × (status ≡ not_live)) ⊎ (IsSome before × (status ≡ busy))

-- nothing was done, and this is why
pub record ShowsNothing (why : Type 0) (before after : Option LedHome) (old new : List ℕ) (written : ℕ) : Type 0 where
  pub because : why
  pub stays : after ≡ before
  pub buffer_stays : new ≡ old
  pub none_written : written ≡ 0

-- what a call for a text does
abbrev pub ShowsInto : TextCall → (before after : Option LedHome) (status : ℕ) (old new : List ℕ) (written : ℕ) → Type 0
ShowsInto asked before after status old new written =
    ShowsNothing (IsUnserved before status) before after old new written
    ⊎ ShowsPart asked before after status old new written

-- the call asks for the units of the group of this path
abbrev pub IsUnits : (path : List ℕ) → TextCall → Type 0
IsUnits path (Units named) = named.items ≡ path
IsUnits path other = ⊥

-- the text is of the units of the group of this path
pub record ShowsUnitsPart (path : List ℕ) (before after : Option LedHome) (status : ℕ) (old new : List ℕ) (written : ℕ)
    : Type 0 where
  pub asked : TextCall
  pub is : IsUnits path asked
  pub shows : ShowsPart asked before after status old new written

-- What a call for units does. Memory for the path is taken first, whatever the handle.
abbrev pub ShowsUnits : (path : List ℕ) (before after : Option LedHome) (status : ℕ) (old new : List ℕ) (written : ℕ)
    → Type 0
ShowsUnits path before after status old new written =
    ShowsNothing (IsUnserved before status ⊎ (status ≡ no_memory)) before after old new written
    ⊎ ShowsUnitsPart path before after status old new written
