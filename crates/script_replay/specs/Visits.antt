-- What lines do by visits, while other CPUs go on. No clause can name what lies behind the lock, so each visit is
-- described by itself: it found some value there, and the next visit may find another. What is answered under the lock
-- and what is written of it are what they are by value (`AnswersLocked`, `IsAnswerText`). Each relation says by which
-- steps: the CPU's past shows where they are in the run.
use Rattle.std.specs.Prelude.{◌≡◌, ◌⊎◌, ℕ, zero, false, List, [], None}
use Rattle.boot_words.specs.{KnownPasts, own_past, AreChangesOf, GrewByAll, SeesMore}
use Rattle.boot_words.specs.declared.past.Past.{Past}
use Rattle.cpu_part.specs.declared.answers.Fast.TheVariants.{Got}
use Rattle.mem_system.specs.{CpuInRun, between_locks, KnownSystem, SeenBehindLock, LockedState, locked_state, IsVisited}
use Rattle.group_tree.specs.Groups.{number_at}
use Rattle.group_tree.specs.declared.fault.Fault.TheVariants.{NoGroup}
use Rattle.reply_texts.specs.declared.line_answer.LineAnswer.{LineAnswer}
use Rattle.reply_texts.specs.Answers.{unlocked_text}
use Rattle.reply_texts.specs.declared.steps.UnlockedAnswer.{UnlockedAnswer}
use Rattle.reply_texts.specs.declared.steps.UnlockedAnswer.TheVariants as unlocked
use Rattle.script_lines.specs.declared.line.Command.{Command}
use Rattle.script_lines.specs.declared.line.Command.TheVariants.{Alloc, Fast}
use Rattle.step_rules.specs.After.{Run}
use Rattle.script_lines.specs.declared.line.Line.{Line}
use Rattle.script_lines.specs.declared.line.Line.TheVariants.{Go, At}
use Rattle.script_replay.specs.Answers.{AnswersUnlocked, AnswersLocked, GetsFast, GetsNoneFast, MakesUnlocked, IsAnswerText, NeedsLock, steps_unlocked}
use Rattle.script_replay.specs.Commands.{OnlySettles}
use Rattle.script_replay.specs.Lines.{AtPart, InOrder}

-- A past has grown by these steps, and by steps that change nothing. After the last of them it may have seen steps of
-- others.
pub record GrewByChanges (before : KnownPasts) (steps : Run) (after : KnownPasts) : Type 0 where
  pub made : Run
  pub last : Past
  pub grew : GrewByAll (own_past before) made last
  pub more : SeesMore last (own_past after)
  pub changes : AreChangesOf made steps

-- a group has the path, and the CPU got this frame of its list for the group, by the step of a Fast for the group
pub record GetsFastBySteps (path : List ℕ) (steps : Run) (before : LockedState) (after : CpuInRun) (frame : ℕ)
    : Type 0 where
  pub gets : GetsFast path before after frame
  pub steps_are : steps ≡ steps_unlocked before.cpu.part.number (Fast gets.group) (unlocked.Fast (Got frame))

-- What a command is answered without a visit. The group of an Alloc of a single frame is found under the lock, by the
-- run that the CPU has seen then (`met`). If there is none, the command is refused; else the CPU may get a frame of its
-- list without the lock.
abbrev pub AnswersWithoutVisit : KnownSystem → Command → (steps : Run) (before after : CpuInRun) → UnlockedAnswer
    → Type 0
AnswersWithoutVisit system (Alloc path zero) steps before after (unlocked.Fast (Got frame)) =
    (met : CpuInRun) × SeenBehindLock system.table
    (λ locked. GetsFastBySteps path.now steps (locked_state locked met) after frame) before met
AnswersWithoutVisit system (Alloc path zero) steps before after (unlocked.Refused NoGroup) =
    SeenBehindLock system.table
    (λ locked. number_at locked.machine.ledger.groups path.now ≡ None) before after × (steps ≡ [])
AnswersWithoutVisit system command steps before after answer =
    AnswersUnlocked command before after answer × (steps ≡ steps_unlocked before.part.number command answer)

-- a command was answered without a visit, by some steps, by which the CPU's past has grown
pub record AnswersWithoutVisitBySteps (system : KnownSystem) (command : Command) (before after : CpuInRun)
    (answer : UnlockedAnswer) : Type 0 where
  pub steps : Run
  pub answers : AnswersWithoutVisit system command steps before after answer
  pub grew : GrewByChanges before.past steps after.past

-- A group has the path: it was found under the lock, which left the CPU `met`. Then a call that takes no lock got no
-- frame for it, and left the CPU `seen` by steps that change nothing.
pub record TriesFrame (system : KnownSystem) (path : List ℕ) (before seen : CpuInRun) : Type 0 where
  pub met : CpuInRun
  pub found : SeenBehindLock system.table
      (λ locked. GetsNoneFast path (locked_state locked met) seen) before met
  pub makes : MakesUnlocked before.part.number [] met.past seen.past

-- what was tried for a command without a visit gave no answer, and left the CPU `seen` by steps that change nothing
abbrev pub TriesInVain : KnownSystem → Command → (before seen : CpuInRun) → Type 0
TriesInVain system (Alloc path zero) before seen = TriesFrame system path.now before seen
TriesInVain system command before seen =
    NeedsLock command before seen × MakesUnlocked before.part.number [] before.past seen.past

-- the command is served by a visit, after tries that left the CPU `seen`
pub record NeedsVisit (system : KnownSystem) (command : Command) (before seen : CpuInRun) : Type 0 where
  pub tried : TriesInVain system command before seen
  pub grew : GrewByChanges before.past [] seen.past
  pub untried : OnlySettles command → seen ≡ before

-- The command was served by a visit, which found the sizes of the boot: the steps are the Lock, those of the visit, and
-- the Unlock. The text of its answer was written from what it left, before another visit could begin.
pub record WritesByVisit (system : KnownSystem) (command : Command) (steps : Run) (before after : CpuInRun)
    (text : List ℕ) : Type 0 where
  pub answer : LineAnswer
  pub visited : IsVisited system.table system.sizes (AnswersLocked system.table command answer)
      before after
  pub steps_are : steps ≡ between_locks before.part.number visited.served.serves.visit.steps
  pub told : IsAnswerText system.table false command answer text (locked_state visited.left after)

-- the text of a command that was answered without a visit
pub record SaysWithoutVisit (system : KnownSystem) (command : Command) (steps : Run) (before after : CpuInRun)
    (text : List ℕ) : Type 0 where
  pub said : UnlockedAnswer
  pub answers : AnswersWithoutVisit system command steps before after said
  pub text_is : text ≡ unlocked_text said

-- The text of a command that was tried in vain. The visit may find another value behind the lock than the try did.
pub record SaysByVisit (system : KnownSystem) (command : Command) (steps : Run) (before after : CpuInRun)
    (text : List ℕ) : Type 0 where
  pub seen : CpuInRun
  pub needs : NeedsVisit system command before seen
  pub writes : WritesByVisit system command steps seen after text

-- the answer of a script's command for a CPU, as text, and the CPU after it
abbrev pub VisitsCommand : KnownSystem → Command → (steps : Run) (before after : CpuInRun) (text : List ℕ) → Type 0
VisitsCommand system command steps before after text =
    SaysWithoutVisit system command steps before after text ⊎ SaysByVisit system command steps before after text

-- the answer of a command, as text, by these steps, by which the CPU's past has grown
pub record VisitsBySteps (system : KnownSystem) (command : Command) (steps : Run) (before after : CpuInRun)
    (text : List ℕ) : Type 0 where
  pub tells : VisitsCommand system command steps before after text
  pub grew : GrewByChanges before.past steps after.past

-- the answer of a command, as text, by some steps
abbrev pub ServesByVisits : KnownSystem → Command → (before after : CpuInRun) (text : List ℕ) → Type 0
ServesByVisits system command before after text = (steps : Run) × VisitsBySteps system command steps before after text

-- the answer of a line, as text; `go` has no answer and does nothing
abbrev pub VisitsLine : KnownSystem → Line → (before after : List CpuInRun) (text : List ℕ) → Type 0
VisitsLine system Go before after text = (text ≡ []) × (after ≡ before)
VisitsLine system (At number cpu command) before after text =
    AtPart cpu (λ part left. ServesByVisits system command part left text) before after

-- the answers of lines, served by visits one after the other
abbrev pub VisitsAll : KnownSystem → List Line → (before after : List CpuInRun) (text : List ℕ) → Type 0
VisitsAll system lines before after text = InOrder (VisitsLine system) lines before after text
