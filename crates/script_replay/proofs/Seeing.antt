-- The watch took the steps of each line, and so of all lines. Serves `replay_checked`, and `log_line` of `line_server`.
use Rattle.std.proofs.Common.{◌≡◌, ◌++◌, ℕ, zero, Bool, true, List, [], ◌∷◌, refl, sym, ap, subst}
use Rattle.boot_words.specs.{zone_of_boot, KnownTable}
use Rattle.cpu_part.specs.declared.answers.Fast.TheVariants.{Got}
use Rattle.group_tree.specs.declared.fault.Fault.TheVariants.{NoGroup}
use Rattle.step_rules.specs.declared.step.Action.TheVariants as step
use Rattle.step_rules.specs.declared.step.Answer.TheVariants as step_answer
use Rattle.step_rules.specs.After.{Run, cpu_makes}
use Rattle.step_watch.specs.Watched.{KnownWatch, Watches, SawRun, has_legal_steps}
use Rattle.step_watch.proofs.Watching.{watches_none, watches_both, watched_runs_are_legal}
use Rattle.mem_system.specs.Locked.{KnownLocked}
use Rattle.mem_system.specs.Visits.{transition, LockedState}
use Rattle.reply_texts.specs.declared.line_answer.LineAnswer.{LineAnswer}
use Rattle.reply_texts.specs.declared.line_answer.LineAnswer.TheVariants as answer
use Rattle.reply_texts.specs.declared.steps.UnlockedAnswer.{UnlockedAnswer}
use Rattle.reply_texts.specs.declared.steps.UnlockedAnswer.TheVariants as unlocked
use Rattle.script_lines.specs.declared.line.Command.{Command}
use Rattle.script_lines.specs.declared.line.Command.TheVariants as command
use Rattle.script_lines.specs.declared.line.Line.{Line}
use Rattle.script_lines.specs.declared.line.Line.TheVariants.{Go, At}
use Rattle.script_replay.specs.{AnswersCommand, ServesUnlocked, IsServedUnderLock, OnlySaw, WritesCommand, ReplaysLegally, SystemState, ServesAll}
use Rattle.script_replay.specs.{WritesLine, steps_of_served}
use Rattle.script_replay.proofs.Gaining.{saw_none}
use Rattle.script_replay.specs.Terms.{Terms}
use Rattle.script_replay.proofs.Keeping.{legal_lines_keep_it}

-- ---- one command

-- the watch before and after these steps
abbrev Sees : Run → KnownLocked → KnownLocked → Type 0
Sees steps before after = Watches before.machine.run.watch steps after.machine.run.watch

stays_seen : (steps : Run) (before after : KnownLocked) → steps ≡ [] → after ≡ before → Sees steps before after
stays_seen steps before after none same =
    subst (λ (x : Run × KnownLocked). Sees x.0 before x.1) (λ i. (sym none i, sym same i)) (watches_none before.machine.run.watch)

module _ (t : KnownTable) (before : LockedState) (steps : Run) (after : LockedState) where
  abbrev SeesAll : Type 0
  SeesAll = Sees steps before.locked after.locked

  made_seen : (made : Run) → steps ≡ made → OnlySaw t made before.locked after.locked → SeesAll
  made_seen made are only = subst (λ (r : Run). Sees r before.locked after.locked) (sym are) only.watched

  locked_seen : (is_explained : Bool) (command : Command) (seen : LockedState) (answer : LineAnswer) → OnlySaw t [] before.locked seen.locked
      → IsServedUnderLock is_explained command answer (transition t seen steps after) → SeesAll
  locked_seen is_explained command seen answer saw is =
      let served = is.answers.serves.visit in
      let first : Run = cpu_makes seen.cpu.part.number step.Lock step_answer.Done ∷ [] in
      let last : Run = cpu_makes seen.cpu.part.number step.Unlock step_answer.Done ∷ [] in
      let a : KnownWatch = seen.locked.machine.run.watch in
      let b : KnownWatch = is.found.machine.run.watch in
      let d : KnownWatch = is.left.machine.run.watch in
      let e : KnownWatch = after.locked.machine.run.watch in
      let inner : Watches b served.steps d =
      subst (λ (x : KnownWatch × KnownWatch). Watches x.0 served.steps x.1) (λ i. (served.taken.watch i, sym served.released.watch i))
      served.makes.noted.watched in
      let rest : Watches b (served.steps ++ last) e = watches_both b served.steps d last e inner is.unlock.watched in
      watches_both before.locked.machine.run.watch [] a steps e saw.watched
      (subst (λ (r : Run). Watches a r e) (sym is.steps_are) (watches_both a first b (served.steps ++ last) e is.lock.watched rest))

  unlocked_seen : (command : Command) (said : UnlockedAnswer) → ServesUnlocked command (transition t before steps after) said → SeesAll
  unlocked_seen (command.Alloc path zero) (unlocked.Fast (Got f)) is = made_seen _ is.takes_no_lock.steps_are is.takes_no_lock.locked
  unlocked_seen (command.Alloc path zero) (unlocked.Refused NoGroup) none = stays_seen steps before.locked after.locked none.1 none.0.same_locked
  unlocked_seen (command.Alloc path zero) said is = absurd is.0
  unlocked_seen command said is = made_seen _ is.1.steps_are is.1.locked

  answer_seen : (is_explained : Bool) (command : Command) (answer : LineAnswer)
      → AnswersCommand is_explained command (transition t before steps after) answer → SeesAll
  answer_seen is_explained command (answer.Served outcome) is = locked_seen is_explained command is.seen (answer.Served outcome) is.only_saw is.served
  answer_seen is_explained command answer.Settled is = locked_seen is_explained command before answer.Settled (saw_none t before.locked) is
  answer_seen is_explained command (answer.Unlocked said) is = unlocked_seen command said is

command_seen : (t : KnownTable) (before : LockedState) (steps : Run) (after : LockedState) (is_explained : Bool) (command : Command) (text : List ℕ)
    → WritesCommand is_explained command (transition t before steps after) text → Sees steps before.locked after.locked
command_seen t before steps after is_explained command text is = answer_seen t before steps after is_explained command is.answer is.answered

-- ---- a line, and all lines

pub line_seen : (t : KnownTable) (is_explained : Bool) (line : Line) (before : SystemState) (steps : Run) (after : SystemState) (text : List ℕ)
    → WritesLine is_explained line (transition t before steps after) text → Sees steps before.locked after.locked
line_seen t is_explained Go before steps after text is =
    stays_seen steps before.locked after.locked is.steps_are (ap (λ (s : SystemState). s.locked) is.stays)
line_seen t is_explained (At number cpu command) before steps after text is =
    command_seen t _ steps _ is_explained command text is.done

all_seen : (on : Terms) (lines : List Line) (s e : SystemState) (text : List ℕ) (served : ServesAll on lines s e text)
    → Sees (steps_of_served on lines s e text served) s.locked e.locked
all_seen on [] s e text served = stays_seen [] s.locked e.locked refl (ap (λ (x : SystemState). x.locked) served.1)
all_seen on (line ∷ lines) s e text served =
    let one = served.serves_first in
    let mid = served.between in
    watches_both s.locked.machine.run.watch one.steps mid.locked.machine.run.watch (steps_of_served on lines mid e served.rest served.serves_rest)
    e.locked.machine.run.watch (line_seen on.table on.is_explained line s one.steps mid one.tells.plain one.tells.so)
    (all_seen on lines mid e served.rest served.serves_rest)

-- if the watch was new before the lines and allowed all steps, the lines have a legal history
pub replayed_legally : (on : Terms) (lines : List Line) (s e : SystemState) (text : List ℕ) → ServesAll on lines s e text
    → has_legal_steps e.locked.machine.run.watch ≡ true → ReplaysLegally on lines s e text
replayed_legally on lines s e text served allowed = record {
  served = served;
  history = λ shows told new.
      let steps = steps_of_served on lines s e text served in
      let saw : SawRun (zone_of_boot on.table) steps e.locked.machine.run.watch =
      watched_runs_are_legal (zone_of_boot on.table) s.locked.machine.run.watch steps e.locked.machine.run.watch new (all_seen on lines s e text served) allowed in
      record { run = steps; saw = saw; history = legal_lines_keep_it on lines s e text served [] shows saw.legal told };
}
