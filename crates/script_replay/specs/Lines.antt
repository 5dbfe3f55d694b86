-- What lines do, one after the other. As with commands, `Writes..` relates a transition to a text, and `Serves..` does
-- so by some steps.
use Rattle.std.specs.Prelude.{◌≡◌, ℕ, Bool, true, ◌-◌, ◌≤◌, List, [], ◌∷◌, ◌++◌, Ok, Some, length, slice_get, slice_set, take}
use Rattle.frame_word.specs.declared.answers.Get.{Get}
use Rattle.boot_words.specs.{own_past, IsRunSoFar, changes_nothing}
use Rattle.boot_words.specs.Pasts.{get_said}
use Rattle.cpu_part.specs.{steps_of_get}
use Rattle.step_rules.specs.After.{Run}
use Rattle.mem_system.specs.{CpuInRun, pasts_of, IsSound, KnownLocked, locked_state}
use Rattle.mem_system.specs.Visits.{Transition, transition}
use Rattle.reply_texts.specs.declared.line_answer.LineAnswer.TheVariants.{Unlocked}
use Rattle.reply_texts.specs.declared.steps.UnlockedAnswer.TheVariants.{Got}
use Rattle.script_lines.specs.declared.line.Command.TheVariants as command
use Rattle.script_lines.specs.declared.line.Line.{Line}
use Rattle.script_lines.specs.declared.line.Line.TheVariants.{Go, At}
use Rattle.script_replay.specs.Terms.{Terms}
use Rattle.script_replay.specs.Answers.{AnswersCommand, CpuStays, OnlySaw, WritesCommand}
use Rattle.script_replay.specs.Numbers.{SaysNumbered}

-- what lies behind the lock, and all CPUs, from CPU 1 on
pub record SystemState : Type 0 where
  pub locked : KnownLocked
  pub cpus : List CpuInRun

-- the number of the line among all lines of its script; `go` has none here, and counts as 0
abbrev pub number_in_script : Line → ℕ
number_in_script Go = 0
number_in_script (At number cpu command) = number

-- the state with this behind the lock and these CPUs
abbrev pub system_state : KnownLocked → List CpuInRun → SystemState
system_state locked cpus = record { locked = locked; cpus = cpus }

-- these steps are the run so far, by the pasts of the zone and of all CPUs
abbrev pub HasRun : Run → SystemState → Type 0
HasRun steps now = IsRunSoFar steps (own_past now.locked.machine.run.past) (pasts_of now.cpus)

-- whatever the run so far was, it goes on by these steps
abbrev pub RunGoesOn : Run → (before after : SystemState) → Type 0
RunGoesOn steps before after = (earlier : Run) → HasRun earlier before → HasRun (earlier ++ steps) after

-- `is_done` leads from this CPU to what it is after that, and the other CPUs stay the same
pub record AtPart (cpu : ℕ) (is_done : (before after : CpuInRun) → Type 0) (before after : List CpuInRun)
    : Type 0 where
  pub part : CpuInRun
  pub left : CpuInRun
  pub is_part : slice_get before (cpu - 1) ≡ Some part
  pub done : is_done part left
  pub cpus : after ≡ slice_set before (cpu - 1) left

-- there is no answer, and nothing is done
pub record WritesNothing (call : Transition SystemState) (text : List ℕ) : Type 0 where
  pub text_is : text ≡ []
  pub stays : call.after ≡ call.before
  pub steps_are : call.steps ≡ []

-- the answer of a line, as text, on this transition; `go` has no answer and does nothing
abbrev pub WritesLine : (is_explained : Bool) → Line → Transition SystemState → (text : List ℕ) → Type 0
WritesLine is_explained Go call text = WritesNothing call text
WritesLine is_explained (At number cpu command) call text =
    AtPart cpu (λ part left. WritesCommand is_explained command
    (transition call.table (locked_state call.before.locked part) call.steps (locked_state call.after.locked left))
    text) call.before.cpus call.after.cpus

-- the answer of a line on these terms, as text, on this transition
abbrev pub WritesLineOnTerms : Terms → Line → Transition SystemState → (text : List ℕ) → Type 0
WritesLineOnTerms terms line call text =
    SaysNumbered terms.is_numbered (number_in_script line) (WritesLine terms.is_explained line call) text

-- the answer of a line, as text, by some steps; what is left behind the lock is sound
pub record ServesLine (terms : Terms) (line : Line) (before after : SystemState) (text : List ℕ) : Type 0 where
  pub steps : Run
  pub tells : WritesLineOnTerms terms line (transition terms.table before steps after) text
  pub goes_on : RunGoesOn steps before after
  pub sound : IsSound terms.table after.locked

-- the first line leads to a state between, the other lines lead on from there, and the text is that of the first line
-- followed by that of the rest
pub record FirstAndRest {S : Type 0} (leads_first leads_rest : (before after : S) (text : List ℕ) → Type 0)
    (before after : S) (text : List ℕ) : Type 0 where
  pub first : List ℕ
  pub rest : List ℕ
  pub between : S
  pub serves_first : leads_first before between first
  pub serves_rest : leads_rest between after rest
  pub text_is : text ≡ first ++ rest

-- lines are served one after the other, each as `serves` says, and their texts follow each other in the same order
abbrev pub InOrder : {S : Type 0} → (Line → (before after : S) (text : List ℕ) → Type 0) → List Line
    → (before after : S) (text : List ℕ) → Type 0
InOrder serves [] before after text = (text ≡ []) × (after ≡ before)
InOrder serves (line ∷ lines) before after text =
    FirstAndRest (serves line) (InOrder serves lines) before after text

-- the answers of lines, served by value of what lies behind the lock
abbrev pub ServesAll : Terms → List Line → (before after : SystemState) (text : List ℕ) → Type 0
ServesAll terms lines before after text = InOrder (ServesLine terms) lines before after text

-- the steps by which lines were served, one line after the other
abbrev pub steps_of_served : (terms : Terms) (lines : List Line) (before after : SystemState) (text : List ℕ)
    → ServesAll terms lines before after text → Run
steps_of_served terms [] before after text served = []
steps_of_served terms (line ∷ lines) before after text served =
    served.serves_first.steps ++ steps_of_served terms lines served.between after served.rest served.serves_rest

-- whatever the run so far was, it goes on by the steps of all lines that were served
abbrev pub AllLinesGoOn : Type 0
AllLinesGoOn = (terms : Terms) (lines : List Line) (before after : SystemState) (text : List ℕ)
    (served : ServesAll terms lines before after text)
    → RunGoesOn (steps_of_served terms lines before after text served) before after

-- the CPU's get of the frame was answered so
abbrev pub AnswersGet : (is_explained : Bool) (cpu frame : ℕ) → Get → Transition SystemState → Type 0
AnswersGet is_explained cpu frame got call =
    AtPart cpu (λ part left. AnswersCommand is_explained (command.Get frame)
    (transition call.table (locked_state call.before.locked part) call.steps (locked_state call.after.locked left))
    (Unlocked (Got got))) call.before.cpus call.after.cpus

-- Whatever the run so far was, it goes on by these steps. Nothing else changes, behind the lock and of the CPU.
pub record OnlyGoesOn (steps : Run) (call : Transition SystemState) (part left : CpuInRun) : Type 0 where
  pub goes_on : RunGoesOn steps call.before call.after
  pub locked : OnlySaw call.table [] call.before.locked call.after.locked
  pub stays : CpuStays part left

-- A get that is answered `zero` or `full` is a step of the run at its place, which no log has. It changes nothing.
abbrev pub QuietGetsAreSteps : Type 0
QuietGetsAreSteps = (is_explained : Bool) (cpu frame : ℕ) (got : Get) (call : Transition SystemState)
    → changes_nothing (get_said got) ≡ true → (answers : AnswersGet is_explained cpu frame got call)
    → OnlyGoesOn (steps_of_get answers.part.part.number frame (Ok got)) call answers.part answers.left

-- Memory ran out for the text of the line of this number. The lines up to and including it were served, once each, and
-- no line after it was. Nobody gets their texts, its own included.
pub record StopsAt {S : Type 0} (serve : List Line → (before after : S) (text : List ℕ) → Type 0) (lines : List Line)
    (before after : S) : Type 0 where
  pub number : ℕ
  pub low : 1 ≤ number
  pub high : number ≤ length lines
  pub text : List ℕ
  pub served : serve (take number lines) before after text
