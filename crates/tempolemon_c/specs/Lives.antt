-- The life of a boot behind a handle, from its boot to its end. All its steps are one legal run.
use Rattle.std.specs.Prelude.{◌≡◌, ◌⊎◌, ℕ, zero, suc, Bool, false, List, [], ◌∷◌, ◌++◌, Option, take}
use mathlib.Core.Logic.{inl, inr}
use Rattle.zone_blocks.specs.declared.config.Config.{Config}
use Rattle.step_rules.specs.After.{Run}
use Rattle.boot_words.specs.{zone_of_boot, IsRunOf}
use Rattle.mem_core.specs.Promise.{AlwaysKeepsPromise}
use Rattle.reply_texts.specs.Answers.{answer_text}
use Rattle.reply_texts.specs.declared.line_answer.LineAnswer.{LineAnswer}
use Rattle.script_lines.specs.declared.line.Line.TheVariants.{At}
use Rattle.script_replay.specs.Lines.{SystemState, steps_of_served}
use Rattle.script_replay.specs.Terms.{Terms, terms}
use Rattle.load_run.specs.Ending.{last_words}
use Rattle.tempolemon_c.specs.Calls.{AnswersBehind, CallsInto}
use Rattle.tempolemon_c.specs.Commands.{StopsText}
use Rattle.tempolemon_c.specs.Handles.{AnswersAndStoresUnread, AnswersLines, BootsNew, EndsBoot, LinesRunOut, LiveBoot, RefusesLines, TakesUnread}
use Rattle.tempolemon_c.specs.declared.calls.Call.{Call}
use Rattle.host_memory.specs.declared.report.Report.{Report}
use Rattle.host_memory.specs.declared.typed_result.TypedResult.{TypedResult}

-- What a call between the boot and the end did to the boot behind the handle, as the calls' contracts say. Nothing was
-- done; a typed call was served; lines were answered; their answers were stored too; a bad line was refused; memory ran
-- out for lines; or the unread answer was fetched.
pub data CallOnHandle (before after : Option LiveBoot) : Type 0 where
  Nothing : after ≡ before → CallOnHandle before after
  Typed : (cpu : ℕ) (asked : Call) (answer : LineAnswer) → AnswersBehind cpu asked before after answer
      → CallOnHandle before after
  Answered : (text : List ℕ) (is_explained : Bool) (answers : List ℕ)
      → AnswersLines text is_explained before after answers → CallOnHandle before after
  Stored : (text : List ℕ) (is_explained : Bool) (answers : List ℕ)
      → AnswersAndStoresUnread text is_explained before after answers → CallOnHandle before after
  Refused : (text : List ℕ) (number : ℕ) → RefusesLines text number before after → CallOnHandle before after
  RanOut : (text : List ℕ) (is_explained : Bool) → LinesRunOut text is_explained before after
      → CallOnHandle before after
  Fetched : (answer : List ℕ) → TakesUnread before after answer → CallOnHandle before after

-- the steps of the lines that were served when memory ran out, if any were
abbrev pub steps_before_stop : (terms : Terms) (sizes : Config) (text : List ℕ) (before after : SystemState)
    → (after ≡ before) ⊎ StopsText terms sizes text before after → Run
steps_before_stop terms sizes text before after (inl stays) = []
steps_before_stop terms sizes text before after (inr stop) =
    steps_of_served terms (take stop.stops.number stop.lines) before after stop.stops.text stop.stops.served

-- the steps of a call: those that its contract names
abbrev pub steps_of_call : (before after : Option LiveBoot) → CallOnHandle before after → Run
steps_of_call before after (Nothing stays) = []
steps_of_call before after (Typed cpu asked answer does) =
    steps_of_served (terms does.frames false) (At 0 cpu does.done.command ∷ []) does.from.state
    does.to.state (answer_text does.to.state.locked.machine.ledger answer) (does.done.serves.says.replays 0)
steps_of_call before after (Answered text is_explained answers does) =
    steps_of_served (terms does.frames is_explained) does.done.replays.lines does.from.state
    does.to.state answers does.done.replays.served
steps_of_call before after (Stored text is_explained answers does) =
    steps_of_served (terms does.lines.frames is_explained) does.lines.done.replays.lines
    does.lines.from.state does.lines.to.state answers does.lines.done.replays.served
steps_of_call before after (Refused text number does) = []
steps_of_call before after (RanOut text is_explained does) =
    steps_before_stop (terms does.frames is_explained) does.from.sizes text does.from.state does.to.state
    does.done.served
steps_of_call before after (Fetched answer does) = []

-- a call on a handle, and then what is made of what it left there
pub record CallAndRest (before : Option LiveBoot) (rest_of : Option LiveBoot → Type 0) : Type 0 where
  pub between : Option LiveBoot
  pub call : CallOnHandle before between
  pub rest : rest_of between

-- so many calls on a handle, one after the other: each finds there what the one before it left
abbrev pub AreCalls : (count : ℕ) (before after : Option LiveBoot) → Type 0
AreCalls zero before after = after ≡ before
AreCalls (suc count) before after = CallAndRest before (λ between. AreCalls count between after)

-- the steps of the calls, in their order
abbrev pub steps_of_calls : (count : ℕ) (before after : Option LiveBoot) → AreCalls count before after → Run
steps_of_calls zero before after calls = []
steps_of_calls (suc count) before after calls =
    steps_of_call before calls.between calls.call ++ steps_of_calls count calls.between after calls.rest

-- the life of a boot behind a handle: it is booted with these sizes, so many calls are made, and it ends with this report
pub record IsLife (sizes : Config) (count : ℕ) (report : Report) : Type 0 where
  pub booted : Option LiveBoot
  pub boots : BootsNew sizes booted
  pub last : Option LiveBoot
  pub calls : AreCalls count booted last
  pub left : Option LiveBoot
  pub ends : EndsBoot last left report

-- the steps of all calls of a life, and those of its end
abbrev pub steps_of_life : (sizes : Config) (count : ℕ) (report : Report) → IsLife sizes count report → Run
steps_of_life sizes count report life =
    steps_of_calls count life.booted life.last life.calls ++ life.ends.ends.leaves.steps

-- Whatever calls are made, the steps of a life are one legal run. It leads to the words that are left in the table of the
-- boot, and the promise holds after each beginning of it that leaves the lock free.
abbrev pub LivesAreLegalRuns : Type 0
LivesAreLegalRuns = (sizes : Config) (count : ℕ) (report : Report) (life : IsLife sizes count report)
    → IsRunOf (zone_of_boot life.boots.boot.frames) (last_words life.ends.ends.closes)
    (steps_of_life sizes count report life)
    × AlwaysKeepsPromise (zone_of_boot life.boots.boot.frames) (steps_of_life sizes count report life)

-- the contract of a typed call says of a handle what a call of its life does
abbrev pub TypedCallsAreCalls : Type 0
TypedCallsAreCalls = (cpu : ℕ) (asked : Call) (before after : Option LiveBoot) (status : ℕ) (out : TypedResult)
    (old new : List ℕ) → CallsInto cpu asked before after status out old new → CallOnHandle before after
