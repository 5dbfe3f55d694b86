-- What contracts see of a host's handle, and what the calls do to the boot behind it.
use Rattle.std.specs.Prelude.{◌≡◌, ℕ, Bool, List, [], Option, None, Some}
use Rattle.zone_blocks.specs.declared.config.Config.{Config}
use Rattle.zone_blocks.specs.Config.{IsValidConfig}
use Rattle.load_run.specs.{IsNewBootState, EndsHeld}
use Rattle.load_run.specs.declared.boot_end.BootEnd.{BootEnd}
use Rattle.tempolemon_c.specs.Known.{KnownLive}
use Rattle.tempolemon_c.specs.Commands.{AnswersScript, RefusesScript, RunsOut, TakesUnreadAnswer, with_unread_answer}
use Rattle.host_memory.specs.{Led, OnHandle, end_of}
use Rattle.host_memory.specs.declared.report.Report.{Report}

-- a boot behind a handle: its table, and what stands between the calls
abbrev pub LiveBoot : Type 0
LiveBoot = Led KnownLive

-- a new boot of these sizes stands behind the handle, and no answer is unread
pub record BootsNew (sizes : Config) (after : Option LiveBoot) : Type 0 where
  pub boot : LiveBoot
  pub is : after ≡ Some boot
  pub valid : IsValidConfig sizes
  pub first : IsNewBootState sizes boot.frames boot.known.state
  pub sizes_are : boot.known.sizes ≡ sizes
  pub none_unread : boot.known.unread_answer ≡ []

-- the lines were replayed with these answers
abbrev pub AnswersLines : (text : List ℕ) (is_explained : Bool) (before after : Option LiveBoot) (answers : List ℕ)
    → Type 0
AnswersLines text is_explained before after answers =
    OnHandle (λ frames from to. AnswersScript frames text is_explained answers from to) before after

-- the lines were replayed with these answers, which are the boot's unread answer now
pub record AnswersAndStoresUnread (text : List ℕ) (is_explained : Bool) (before after : Option LiveBoot)
    (answers : List ℕ) : Type 0 where
  pub between : Option LiveBoot
  pub lines : AnswersLines text is_explained before between answers
  pub stores : OnHandle (λ frames from to. to ≡ with_unread_answer from answers) between after

-- this is the first bad line of the text, and nothing is done
abbrev pub RefusesLines : (text : List ℕ) (number : ℕ) (before after : Option LiveBoot) → Type 0
RefusesLines text number before after =
    OnHandle (λ frames from to. RefusesScript text number from to) before after

-- memory ran out before the first line, or for the answer of a line that was served
abbrev pub LinesRunOut : (text : List ℕ) (is_explained : Bool) (before after : Option LiveBoot) → Type 0
LinesRunOut text is_explained before after =
    OnHandle (λ frames from to. RunsOut frames text is_explained from to) before after

-- the unread answer was taken, and none is left
abbrev pub TakesUnread : (before after : Option LiveBoot) (answer : List ℕ) → Type 0
TakesUnread before after answer = OnHandle (λ frames from to. TakesUnreadAnswer from to answer) before after

-- the boot has this unread answer
abbrev pub HasUnread : (boot : Option LiveBoot) (answer : List ℕ) → Type 0
HasUnread boot answer = OnHandle (λ frames from to. from.unread_answer ≡ answer) boot boot

-- what a host reads of the end of a boot, as the boot told it
abbrev pub ended_of : Report → BootEnd
ended_of report = record { held = (end_of report).held; audit = (end_of report).audit }

-- the boot ended with this report, and none is left
pub record EndsBoot (before after : Option LiveBoot) (report : Report) : Type 0 where
  pub boot : LiveBoot
  pub was : before ≡ Some boot
  pub none_left : after ≡ None
  pub ends : EndsHeld boot.frames boot.known.state (ended_of report)
