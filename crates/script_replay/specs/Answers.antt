-- What a CPU's command does, to the CPU's part and behind the lock, by which steps, and what its answer is. `Answers..`
-- relates a transition to an answer, and `Writes..` relates a transition to a text. `Serves..` relates the state
-- before, the state after and a text, by some steps.
use Rattle.std.specs.Prelude.{◌≡◌, ◌≢◌, ◌⊎◌, ℕ, zero, ◌+◌, ◌<◌, ◌≤◌, Bool, true, false, ◌&&◌, List, [], ◌∷◌, ◌++◌}
use Rattle.std.specs.Prelude.{Option, Some, None, Result, Ok, IfOk, filter, length, not}
use Rattle.std.specs.declared.string.String.{String}
use Rattle.std.specs.String.{string_bytes}
use Rattle.boot_words.specs.{AllOf, KnownPasts, own_past, AreChangesOf, GainsSteps, GrewByAll, KnownTable, changes_nothing}
use Rattle.group_tree.specs.Groups.{number_at}
use Rattle.group_tree.specs.declared.fault.Fault.TheVariants.{NoGroup, PinsFull, NotPinned}
use Rattle.step_rules.specs.State.{times, most_pins}
use Rattle.cpu_part.specs.declared.answers.Fast.{Fast as FastAnswer}
use Rattle.cpu_part.specs.declared.answers.Fast.TheVariants.{Got}
use Rattle.cpu_part.specs.declared.answers.Dropped.TheVariants as dropped
use Rattle.cpu_part.specs.{FastAnswers, DropAnswers, PinAnswers, StaysSo, UnpinAnswers, steps_of_get}
use Rattle.step_rules.specs.declared.step.Action.TheVariants as step
use Rattle.step_rules.specs.declared.step.Answer.TheVariants as step_answer
use Rattle.step_rules.specs.After.{Run, cpu_makes}
use Rattle.step_watch.specs.Watched.{KnownWatch, Watches}
use Rattle.machine_texts.specs.{explanation_text, blocks_text, show_text, stock_line_text}
use Rattle.mem_machine.specs.{KnownMachine, left_by, with_run, with_detail_notes, with_watch, KnownRun}
use Rattle.mem_history.specs.{under_lock, put_answer}
use Rattle.mem_system.specs.declared.text_command.TextCommand.{TextCommand}
use Rattle.mem_system.specs.declared.text_command.TextCommand.TheVariants as cmd
use Rattle.mem_system.specs.declared.outcome.Outcome.{Outcome}
use Rattle.mem_system.specs.{CpuInRun, KnownLocked, UnitsAt, LockedState, locked_state, ServesText}
use Rattle.mem_system.specs.Visits.{Transition, transition}
use Rattle.reply_texts.specs.declared.line_answer.LineAnswer.{LineAnswer}
use Rattle.reply_texts.specs.declared.line_answer.LineAnswer.TheVariants as answer
use Rattle.reply_texts.specs.Answers.{answer_text, settled_text}
use Rattle.reply_texts.specs.Replies.{refusal_text}
use Rattle.reply_texts.specs.declared.steps.UnlockedAnswer.{UnlockedAnswer}
use Rattle.reply_texts.specs.declared.steps.UnlockedAnswer.TheVariants as unlocked
use Rattle.script_lines.specs.declared.line.Command.{Command}
use Rattle.script_lines.specs.declared.line.Command.TheVariants.{Alloc, Fast, Release, Get, Put, Settle, Blocks, Show, Stock, Units}
use Rattle.script_replay.specs.Commands.{OnlySettles, locked_command_of, head_named, path_removed}
use Rattle.script_replay.specs.Reasons.{borrower_of, fault_in, reasoned_text}
use Rattle.script_replay.specs.Terms.{Terms}

-- ---- texts that a call adds

-- A call that adds a text to a string. There is a text of which `is_said` holds, whether or not memory was available
-- for it. If the call succeeds, the new string is the old one followed by that text.
pub record AddsText {Z T E : Type 0} (result : Result T E) (old new : String Z) (is_said : List ℕ → Type 0)
    : Type 0 where
  pub text : List ℕ
  pub so : is_said text
  pub added : IfOk result (λ _. string_bytes new ≡ string_bytes old ++ text)

-- ---- the watch

-- the same behind the lock, with this watch in the machine
abbrev pub locked_with_watch : KnownLocked → KnownWatch → KnownLocked
locked_with_watch locked watch = record locked { machine = with_watch locked.machine watch }

-- the same behind the lock, with this run in the machine
abbrev pub locked_with_run : KnownLocked → KnownRun → KnownLocked
locked_with_run locked run = record locked { machine = with_run locked.machine run }

-- the same behind the lock, with details noted from now on, or not
abbrev pub locked_with_detail_notes : KnownLocked → (is_on : Bool) → KnownLocked
locked_with_detail_notes locked is_on = record locked { machine = with_detail_notes locked.machine is_on }

-- the watch of the machine takes these steps, and nothing else changes behind the lock
pub record OnlyWatched (steps : Run) (before after : KnownLocked) : Type 0 where
  pub locked : after ≡ locked_with_watch before after.machine.run.watch
  pub watched : Watches before.machine.run.watch steps after.machine.run.watch

-- The watch of the machine takes these steps, and nothing else changes behind the lock except the zone's past. `Gains`
-- says how the past has grown. Every CPU's own part hidden, it leaves what it left before.
pub record OnlySaw (table : KnownTable) (steps : Run) (before after : KnownLocked) : Type 0 where
  pub locked : after ≡ locked_with_run before after.machine.run
  pub watched : Watches before.machine.run.watch steps after.machine.run.watch
  pub left : left_by table after.machine.run.past ≡ left_by table before.machine.run.past

-- ---- the run

-- the zone's past and the CPU's past gain these steps
abbrev pub Gains : Run → (before after : LockedState) → Type 0
Gains steps before after = GainsSteps (own_past before.locked.machine.run.past) (own_past before.cpu.past) steps
    (own_past after.locked.machine.run.past) (own_past after.cpu.past)

-- ---- without the lock

-- the steps of the run whose answer changes something
abbrev pub changes_in : Run → Run
changes_in run = filter (λ made. not (changes_nothing made.1)) run

-- No lock is taken: only the CPU makes these steps. The watch takes those that change something.
pub record TakesNoLock (steps : Run) (call : Transition LockedState) : Type 0 where
  pub locked : OnlySaw call.table (changes_in steps) call.before.locked call.after.locked
  pub steps_are : call.steps ≡ changes_in steps
  pub gains : Gains steps call.before call.after

-- a fresh frame was listed again without the lock
pub record ListsAgain (frame : ℕ) (before after : CpuInRun) : Type 0 where
  pub fresh : 1 ≤ times frame before.part.fresh
  pub listed : DropAnswers frame dropped.Listed before.last before.part after.last after.part

-- nothing changed of the CPU, except its past
abbrev pub CpuStays : (before after : CpuInRun) → Type 0
CpuStays before after = StaysSo before.last before.part after.last after.part

-- the frame isn't fresh at the CPU, and nothing changed
pub record IsNotFresh (frame : ℕ) (before seen : CpuInRun) : Type 0 where
  pub none_fresh : times frame before.part.fresh ≡ 0
  pub stays : CpuStays before seen

-- the frame is fresh at the CPU, but its page can't be credited, because the stock was drained
pub record FindsDrained (frame : ℕ) (before seen : CpuInRun) : Type 0 where
  pub fresh : 1 ≤ times frame before.part.fresh
  pub drained : DropAnswers frame dropped.NeedVisit before.last before.part seen.last seen.part

-- The frame can't be listed again without the lock: it isn't fresh at the CPU, or the stock was drained. `seen` is the
-- CPU after this call.
abbrev pub CanNotList : (frame : ℕ) (before seen : CpuInRun) → Type 0
CanNotList frame before seen = IsNotFresh frame before seen ⊎ FindsDrained frame before seen

-- What a command is answered that the CPU carries out without the lock. Fast: what a fast allocation for the group
-- returned. Get: one more pin on the frame; refused if pins and back frames together are as many as the CPU can have.
-- Put: one pin less; refused if the CPU has no pin on the frame. Release: a fresh frame is listed again.
abbrev pub AnswersUnlocked : Command → (before after : CpuInRun) → UnlockedAnswer → Type 0
AnswersUnlocked (Fast group) before after (unlocked.Fast fast) =
    FastAnswers group fast before.last before.part after.last after.part
AnswersUnlocked (Get frame) before after (unlocked.Got got) =
    (length before.part.back + length before.part.pins < most_pins) × PinAnswers frame got before.part after.part
    × (after.last ≡ before.last)
AnswersUnlocked (Get frame) before after (unlocked.Refused PinsFull) =
    (length before.part.back + length before.part.pins ≡ most_pins) × CpuStays before after
AnswersUnlocked (Put frame) before after (unlocked.Put put) =
    (1 ≤ times frame before.part.pins) × UnpinAnswers frame put before.part after.part × (after.last ≡ before.last)
AnswersUnlocked (Put frame) before after (unlocked.Refused NotPinned) =
    (times frame before.part.pins ≡ 0) × CpuStays before after
AnswersUnlocked (Release frame) before after unlocked.Listed = ListsAgain frame before after
AnswersUnlocked command before after answer = ⊥

-- the step of such an answer, if one was made; that of a get also if it is answered `zero` or `full`
abbrev pub steps_unlocked : (cpu : ℕ) → Command → UnlockedAnswer → Run
steps_unlocked cpu (Fast group) (unlocked.Fast (Got frame)) = cpu_makes cpu (step.Consume group) step_answer.Took ∷ []
steps_unlocked cpu (Get frame) (unlocked.Got got) = steps_of_get cpu frame (Ok got)
steps_unlocked cpu (Put frame) (unlocked.Put put) = cpu_makes cpu (step.Put frame) (put_answer put) ∷ []
steps_unlocked cpu (Release frame) unlocked.Listed = cpu_makes cpu (step.Credit frame) step_answer.Stocked ∷ []
steps_unlocked cpu command answer = []

-- the step of what was tried without the lock; without an answer there is none
abbrev pub steps_tried : (cpu : ℕ) → Command → Option UnlockedAnswer → Run
steps_tried cpu command None = []
steps_tried cpu command (Some answer) = steps_unlocked cpu command answer

-- The CPU of this number makes steps without the lock. They are these, apart from steps that change nothing.
pub record MakesUnlocked (cpu : ℕ) (steps : Run) (before after : KnownPasts) : Type 0 where
  pub made : Run
  pub grew : GrewByAll (own_past before) made (own_past after)
  pub changes : AreChangesOf made steps
  pub own : AllOf (λ one. one.0.seat ≡ cpu) made

-- the command isn't answered without the lock, and what was tried left the CPU `seen`
abbrev pub NeedsLock : Command → (before seen : CpuInRun) → Type 0
NeedsLock (Fast group) before seen = ⊥
NeedsLock (Get frame) before seen = ⊥
NeedsLock (Put frame) before seen = ⊥
NeedsLock (Release frame) before seen = CanNotList frame before seen
NeedsLock command before seen = CpuStays before seen

-- no group has the path, and nothing changed
pub record FindsNoGroup (path : List ℕ) (before after : LockedState) : Type 0 where
  pub none : number_at before.locked.machine.ledger.groups path ≡ None
  pub same_locked : after.locked ≡ before.locked
  pub same_cpu : after.cpu ≡ before.cpu

-- a group has the path, and the CPU got this frame of its list for the group, without the lock
pub record GetsFast (path : List ℕ) (before : LockedState) (after : CpuInRun) (frame : ℕ) : Type 0 where
  pub group : ℕ
  pub found : number_at before.locked.machine.ledger.groups path ≡ Some group
  pub got : FastAnswers group (Got frame) before.cpu.last before.cpu.part after.last after.part

-- a frame was got without the lock, by the step of a Fast for the group
pub record AllocatesFast (path : List ℕ) (frame : ℕ) (call : Transition LockedState) : Type 0 where
  pub gets : GetsFast path call.before call.after.cpu frame
  pub takes_no_lock : TakesNoLock (steps_unlocked call.before.cpu.part.number (Fast gets.group) (unlocked.Fast (Got frame))) call

-- A group has the path, but a call that takes no lock got no frame for it. `seen` is the CPU after this call.
pub record GetsNoneFast (path : List ℕ) (before : LockedState) (seen : CpuInRun) : Type 0 where
  pub group : ℕ
  pub found : number_at before.locked.machine.ledger.groups path ≡ Some group
  pub fast : FastAnswer
  pub answers : FastAnswers group fast before.cpu.last before.cpu.part seen.last seen.part
  pub none : (frame : ℕ) → fast ≢ Got frame

-- What a command is answered without the lock, by which steps. An Alloc of a single frame is, if no group has the path,
-- or if the CPU got a frame of its list.
abbrev pub ServesUnlocked : Command → Transition LockedState → UnlockedAnswer → Type 0
ServesUnlocked (Alloc path zero) call (unlocked.Fast (Got frame)) = AllocatesFast path.now frame call
ServesUnlocked (Alloc path zero) call (unlocked.Refused NoGroup) =
    FindsNoGroup path.now call.before call.after × (call.steps ≡ [])
ServesUnlocked command call answer =
    AnswersUnlocked command call.before.cpu call.after.cpu answer
    × TakesNoLock (steps_unlocked call.before.cpu.part.number command answer) call

-- ---- under the lock

-- what a command is answered that is served under the lock: the outcome of its `TextCommand`, or that its CPU was only
-- settled
abbrev pub IsAnswerOf : Command → (asked : TextCommand) (outcome : Outcome) → LineAnswer → Type 0
IsAnswerOf command asked outcome (answer.Served said) = (locked_command_of command ≡ Some asked) × (said ≡ outcome)
IsAnswerOf command asked outcome answer.Settled = OnlySettles command × (asked ≡ cmd.Settle)
IsAnswerOf command asked outcome (answer.Unlocked said) = ⊥

-- the command was served under the lock with this answer
pub record AnswersLocked (table : KnownTable) (command : Command) (answer : LineAnswer) (before after : LockedState)
    : Type 0 where
  pub asked : TextCommand
  pub outcome : Outcome
  pub is_answer : IsAnswerOf command asked outcome answer
  pub serves : ServesText table asked outcome before after

-- ---- with what lies behind the lock: no lock is taken by value, but in the history the steps are between a Lock and
-- an Unlock, which the watch takes

-- The command is served under the lock: the steps are Lock, those of the command, and Unlock. Reclaimed units are noted
-- exactly if the command is explained. The command finds `found` behind the lock, where the watch took the Lock, and
-- leaves `left`.
pub record IsServedUnderLock (is_explained : Bool) (command : Command) (answer : LineAnswer)
    (call : Transition LockedState) : Type 0 where
  pub found : KnownLocked
  pub left : KnownLocked
  pub lock : OnlyWatched (cpu_makes call.before.cpu.part.number step.Lock step_answer.Done ∷ [])
      (locked_with_detail_notes call.before.locked is_explained) found
  pub answers : AnswersLocked call.table command answer
      (locked_state found call.before.cpu) (locked_state left call.after.cpu)
  pub unlock : OnlyWatched (cpu_makes call.before.cpu.part.number step.Unlock step_answer.Done ∷ [])
      left call.after.locked
  pub steps_are : call.steps ≡ under_lock call.before.cpu.part.number answers.serves.visit.steps

-- the command of a CPU was served under the lock with this answer, by some steps
pub record ServesUnderLock (table : KnownTable) (is_explained : Bool) (command : Command) (answer : LineAnswer)
    (before after : LockedState) : Type 0 where
  pub steps : Run
  pub served : IsServedUnderLock is_explained command answer (transition table before steps after)
  pub gains : Gains steps before after

-- what was tried for the command without the lock gave no answer, and left the CPU `seen`
abbrev pub IsTriedInVain : Command → LockedState → (seen : CpuInRun) → Type 0
IsTriedInVain (Alloc path zero) before seen = GetsNoneFast path.now before seen
IsTriedInVain command before seen = NeedsLock command before.cpu seen

-- the command was tried in vain without the lock, which left `seen`, and then served under it
pub record ServesTried (is_explained : Bool) (command : Command) (outcome : Outcome)
    (call : Transition LockedState) : Type 0 where
  pub seen : LockedState
  pub tried : IsTriedInVain command call.before seen.cpu
  pub only_saw : OnlySaw call.table [] call.before.locked seen.locked
  pub served : IsServedUnderLock is_explained command (answer.Served outcome)
      (transition call.table seen call.steps call.after)

-- ---- any command

-- The answer of a command. If it only settles its CPU, its text is read from what it left.
abbrev pub AnswersCommand : (is_explained : Bool) → Command → Transition LockedState → LineAnswer → Type 0
AnswersCommand is_explained command call (answer.Served outcome) = ServesTried is_explained command outcome call
AnswersCommand is_explained command call answer.Settled = IsServedUnderLock is_explained command answer.Settled call
AnswersCommand is_explained command call (answer.Unlocked said) = ServesUnlocked command call said

-- the answer of a command, by some steps
pub record ServesAnswer (terms : Terms) (command : Command) (before after : LockedState) (answer : LineAnswer)
    : Type 0 where
  pub steps : Run
  pub answered : AnswersCommand terms.is_explained command (transition terms.table before steps after) answer
  pub gains : Gains steps before after

-- ---- the text of an answer

-- there are notes of the command: it was served under the lock, and could ask for memory there
abbrev pub is_noted : LineAnswer → Bool
is_noted (answer.Served outcome) = true
is_noted other = false

-- if it is asked for, the explanation of a command that was served under the lock: what it drained, reclaimed and
-- killed, from the groups and notes that the command left
abbrev pub explanation_if : (is_asked : Bool) → (removed : List ℕ) → KnownMachine → List ℕ
explanation_if true removed machine =
    explanation_text machine.ledger.groups removed machine.notes.list machine.notes.left_out
explanation_if false removed machine = []

-- Units: the text is that of the kept units of the group of this path, with the pins that one load of each unit's word
-- found; or no group has the path, and that is refused
abbrev pub IsUnitsText : KnownTable → (is_explained : Bool) → (path text : List ℕ) (machine : KnownMachine) → Type 0
IsUnitsText table is_explained path text machine =
    UnitsAt table (number_at machine.ledger.groups path)
    (text ≡ reasoned_text is_explained (refusal_text NoGroup) (Some NoGroup) None)
    (λ shown. text ≡ shown) machine machine

-- what a command writes that only settles its CPU, from the settled state
abbrev pub IsSettledText : KnownTable → (is_explained : Bool) → Command → (text : List ℕ) (settled : LockedState) → Type 0
IsSettledText table is_explained Settle text settled = text ≡ settled_text
IsSettledText table is_explained Blocks text settled = text ≡ blocks_text settled.locked.machine.blocks
IsSettledText table is_explained Show text settled = text ≡ show_text settled.locked.machine
IsSettledText table is_explained Stock text settled =
    text ≡ stock_line_text table settled.locked.machine settled.cpu.part
IsSettledText table is_explained (Units path) text settled =
    IsUnitsText table is_explained path.now text settled.locked.machine
IsSettledText table is_explained command text settled = ⊥

-- The text of an answer, from what the command left. If an explanation is asked for, the text continues with why the
-- command is refused, if it is, and then with the explanation of what it did, if there are notes of the command.
abbrev pub IsAnswerText : KnownTable → (is_explained : Bool) → Command → LineAnswer → (text : List ℕ) (left : LockedState)
    → Type 0
IsAnswerText table is_explained command answer.Settled text left = IsSettledText table is_explained command text left
IsAnswerText table is_explained command answer text left =
    text ≡ reasoned_text is_explained (answer_text left.locked.machine.ledger answer) (fault_in answer)
    (borrower_of (head_named command) left.locked.machine)
    ++ explanation_if (is_noted answer && is_explained) (path_removed command) left.locked.machine

-- the answer of a command, as text
pub record WritesCommand (is_explained : Bool) (command : Command) (call : Transition LockedState) (text : List ℕ)
    : Type 0 where
  pub answer : LineAnswer
  pub answered : AnswersCommand is_explained command call answer
  pub told : IsAnswerText call.table is_explained command answer text call.after

-- the answer of a command, as text, by some steps
pub record ServesCommand (terms : Terms) (command : Command) (before after : LockedState) (text : List ℕ)
    : Type 0 where
  pub steps : Run
  pub writes : WritesCommand terms.is_explained command (transition terms.table before steps after) text
  pub gains : Gains steps before after
