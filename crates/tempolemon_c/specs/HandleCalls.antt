-- What a call means, and what it does to a live boot.
use Rattle.std.specs.Prelude.{◌≡◌, ℕ, ◌+◌, ◌-◌, ◌<◌, ◌≤◌, List, Some, length, slice_get}
use Rattle.group_tree.specs.{path_of}
use Rattle.group_tree.specs.declared.group.Group.{Group}
use Rattle.group_charge.specs.Charges.{Ledger}
use Rattle.host_memory.specs.{IsMissingIn}
use Rattle.control_files.specs.declared.file.File.{File}
use Rattle.boot_words.specs.Tables.{KnownTable}
use Rattle.step_rules.specs.State.{most_pins}
use Rattle.mem_system.specs.{CpuInRun}
use Rattle.mem_system.specs.declared.outcome.Outcome.TheVariants as outcome
use Rattle.mem_system.specs.Outcomes.{HasItsGroups, shown_text}
use Rattle.reply_texts.specs.declared.line_answer.LineAnswer.{LineAnswer}
use Rattle.script_lines.specs.declared.line.Command.{Command}
use Rattle.script_lines.specs.declared.line.Command.TheVariants as cmd
use Rattle.script_replay.specs.{HasValueAnswer, CommandInRange, CpuCommandInRange, NamesItsGroups, SaysCommand}
use Rattle.tempolemon_c.specs.Known.{KnownLive}
use Rattle.tempolemon_c.specs.Commands.{SameButState}
use Rattle.tempolemon_c.specs.declared.calls.Call.{Call}
use Rattle.tempolemon_c.specs.declared.calls.Call.TheVariants as call
use Rattle.tempolemon_c.specs.declared.calls.CallAnswer.{CallAnswer}
use Rattle.tempolemon_c.specs.declared.calls.CallAnswer.TheVariants as returned
use Rattle.tempolemon_c.specs.declared.calls.PinCheck.{PinCheck}
use Rattle.tempolemon_c.specs.declared.calls.PinCheck.TheVariants as check

-- what a typed call asks: a command of a script which names no group by its number, and whose answer is a value; or a
-- block for the group of a number
abbrev pub IsTypedCall : Call → Type 0
IsTypedCall (call.Script (cmd.Fast group)) = ⊥
IsTypedCall (call.Script command) = HasValueAnswer command
IsTypedCall (call.Alloc group order) = Unit {0}

-- The call means this command of a script, if these are the groups. A group that a call names by its number is named by
-- its path in a script
abbrev pub Means : List Group → Call → Command → Type 0
Means groups (call.Script asked) command = command ≡ asked
Means groups (call.Alloc group order) (cmd.Alloc named as_order) =
    (path_of groups group ≡ Some named.now) × (as_order ≡ order)
Means groups (call.Alloc group order) other = ⊥

-- there is a CPU of this number
pub record IsCpu (cpus cpu : ℕ) : Type 0 where
  pub low : 1 ≤ cpu
  pub high : cpu ≤ cpus

-- the frame that the call names isn't in the zone
abbrev pub NamesMissingFrame : (frames : ℕ) → Call → Type 0
NamesMissingFrame frames (call.Script command) = ¬ CommandInRange frames command
NamesMissingFrame frames other = ⊥

-- no group has the number that the call names
abbrev pub NamesMissingGroup : List Group → Call → Type 0
NamesMissingGroup groups (call.Alloc group order) = IsMissingIn groups group
NamesMissingGroup groups other = ⊥

-- what a call returned is this answer, and the groups that it shows exist
abbrev pub IsReturnedAnswer : Ledger → LineAnswer → CallAnswer → Type 0
IsReturnedAnswer ledger answer (returned.Served value) = NamesItsGroups ledger value × (answer ≡ value)
IsReturnedAnswer ledger answer other = ⊥

-- the CPU and what the command names exist, it was served with this answer, and nothing else changed
pub record ServesLiveCommand (frames : KnownTable) (cpu : ℕ) (command : Command)
    (from to : KnownLive) (answer : LineAnswer) : Type 0 where
  pub there : CpuCommandInRange from.sizes.frames from.sizes.cpus cpu command
  pub says : SaysCommand frames cpu command from.state to.state answer
  pub rest : SameButState from to

-- the command was served, and this is returned of its answer
pub record ReturnsCommandAnswer (frames : KnownTable) (cpu : ℕ) (command : Command)
    (from to : KnownLive) (returned : CallAnswer) : Type 0 where
  pub answer : LineAnswer
  pub serves : ServesLiveCommand frames cpu command from to answer
  pub is_answer : IsReturnedAnswer to.state.locked.machine.ledger answer returned

-- the call was served as the command of a script that it means, and this is returned of the answer
pub record ServesCall (frames : KnownTable) (cpu : ℕ) (asked : Call)
    (from to : KnownLive)
    (returned : CallAnswer) : Type 0 where
  pub command : Command
  pub means : Means from.state.locked.machine.ledger.groups asked command
  pub tells : ReturnsCommandAnswer frames cpu command from to returned

-- the call names what isn't there, and nothing is done
pub record RefusesCall (is_missing : Type 0) (from to : KnownLive) : Type 0 where
  pub missing : is_missing
  pub stays : to ≡ from

-- What a call of a CPU does, and what it returns. The CPU is looked for first: a missing frame or group is named only of
-- a CPU that exists
abbrev pub CallsLive : KnownTable → (cpu : ℕ) → Call → (from to : KnownLive) → CallAnswer → Type 0
CallsLive frames cpu asked from to (returned.Served value) =
    ServesCall frames cpu asked from to (returned.Served value)
CallsLive frames cpu asked from to returned.NoCpu = RefusesCall (¬ IsCpu from.sizes.cpus cpu) from to
CallsLive frames cpu asked from to returned.NoFrame =
    RefusesCall (IsCpu from.sizes.cpus cpu × NamesMissingFrame from.sizes.frames asked) from to
CallsLive frames cpu asked from to returned.NoGroup =
    RefusesCall (IsCpu from.sizes.cpus cpu × NamesMissingGroup from.state.locked.machine.ledger.groups asked) from to

-- `Is` holds of the CPU of this number
pub record IsOfCpu (cpu : ℕ) (Is : CpuInRun → Type 0) (live : KnownLive) : Type 0 where
  pub part : CpuInRun
  pub is_part : slice_get live.state.cpus (cpu - 1) ≡ Some part
  pub is : Is part

-- the CPU has fewer pins and back frames than it can have
abbrev pub MayPinOneMore : CpuInRun → Type 0
MayPinOneMore part = length part.part.back + length part.part.pins < most_pins

-- a block has this order: 1 to 10
abbrev pub IsOrderOfBlock : ℕ → Type 0
IsOrderOfBlock order = (1 ≤ order) × (order ≤ 10)

-- Whether a CPU may have one more pin, of a block of this order. The CPU is looked for first, and then its pins are
-- counted.
abbrev pub IsPinCheck : (cpu order : ℕ) → KnownLive → PinCheck → Type 0
IsPinCheck cpu order live check.NoCpu = ¬ IsCpu live.sizes.cpus cpu
IsPinCheck cpu order live check.PinsFull = IsCpu live.sizes.cpus cpu × IsOfCpu cpu (λ part. ¬ MayPinOneMore part) live
IsPinCheck cpu order live check.BadOrder =
    IsCpu live.sizes.cpus cpu × IsOfCpu cpu MayPinOneMore live × (¬ IsOrderOfBlock order)
IsPinCheck cpu order live check.May = IsCpu live.sizes.cpus cpu × IsOfCpu cpu MayPinOneMore live × IsOrderOfBlock order

-- that was asked, and nothing is done
pub record ChecksPin (cpu order : ℕ) (check : PinCheck) (from to : KnownLive) : Type 0 where
  pub is : IsPinCheck cpu order from check
  pub stays : to ≡ from

-- the group exists, and isn't the root, which has no files
abbrev pub GroupHasFiles : (group : ℕ) → File → KnownLive → Type 0
GroupHasFiles group file live = HasItsGroups live.state.locked.machine.ledger (outcome.Text group file)

-- this is the text of the file, and nothing is done
pub record ShowsFile (group : ℕ) (file : File) (from to : KnownLive) (shown : List ℕ) : Type 0 where
  pub text_is : shown ≡ shown_text from.state.locked.machine.ledger group file
  pub stays : to ≡ from
