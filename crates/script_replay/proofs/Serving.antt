-- How one command is served, and how its answer is written. Serves `server`, `writer`, `serve_at_cpu`.
use Rattle.std.proofs.Common.{◌≡◌, ◌≢◌, ◌∙◌, ℕ, zero, suc, Bool, true, false, Option, Some, None, List, [], ◌++◌, Result, Ok, Err, IfOk, append_assoc, append-nil, ap, refl, subst, sym, ◌&&◌}
use Rattle.std.proofs.lemmas.Option.{none-some}
use Rattle.std.specs.Borrow.{Bor}
use Rattle.std.specs.declared.string.String.{String}
use Rattle.std.specs.String.{string_bytes}
use Rattle.boot_words.specs.Tables.{KnownTable}
use Rattle.group_tree.specs.declared.fault.Fault.{Fault}
use Rattle.cpu_part.specs.declared.answers.Fast.{Fast as FastAnswer}
use Rattle.cpu_part.specs.declared.answers.Fast.TheVariants.{FreshFull, ListEmpty, OtherGroup, Drained, NoStock, Got}
use Rattle.mem_machine.specs.Machines.{KnownMachine}
use Rattle.boot_words.specs.Pasts.{own_past}
use Rattle.boot_words.proofs.Gaining.{gains_both}
use Rattle.mem_system.specs.{CpuInRun, KnownLocked, LockedState, locked_state}
use Rattle.mem_system.specs.Visits.{Transition, transition}
use Rattle.reply_texts.specs.declared.line_answer.LineAnswer.{LineAnswer}
use Rattle.reply_texts.specs.declared.line_answer.LineAnswer.TheVariants as answer
use Rattle.reply_texts.specs.Answers.{answer_text}
use Rattle.reply_texts.specs.declared.steps.UnlockedAnswer.{UnlockedAnswer}
use Rattle.reply_texts.specs.declared.steps.UnlockedAnswer.TheVariants as unlocked
use Rattle.script_lines.specs.declared.line.Command.{Command}
use Rattle.script_lines.specs.declared.line.Command.TheVariants.{Alloc, Fast, Get, Put, Settle, Blocks, Show, Stock, Units}
use Rattle.step_rules.specs.After.{Run}
use Rattle.script_replay.specs.{AddsText, AnswersUnlocked, AnswersLocked, Gains, OnlySaw, AnswersCommand, ServesUnlocked, IsAnswerText, IsSettledText}
use Rattle.script_replay.specs.{IsTriedInVain, NeedsLock, OnlyWatched, ServesAnswer, ServesUnderLock, TakesNoLock, explanation_if, is_noted}
use Rattle.script_replay.specs.{changes_in, steps_unlocked, OnlySettles, locked_command_of, frame_path, head_named, is_tried, path_removed, borrower_of, fault_in}
use Rattle.script_replay.specs.{refusal_reason_text, reasoned_text}
use Rattle.script_replay.specs.Terms.{Terms}
use Rattle.script_replay.proofs.Gaining.{changes_gained, gains_none, saw_both, saw_none, watched_gains, watched_saw}

-- ---- served

unlocked_is : (command : Command) (call : Transition LockedState) (said : UnlockedAnswer) → AnswersUnlocked command call.before.cpu call.after.cpu said
    → TakesNoLock (steps_unlocked call.before.cpu.part.number command said) call → ServesUnlocked command call said
unlocked_is (Alloc path order) call said is alone = absurd is
unlocked_is command call said is alone = (is, alone)

-- a step without the lock, which the watch took after it was tried
pub then_watched : (t : KnownTable) (l mid m : KnownLocked) (cpu number : ℕ) → cpu ≡ number → (told : ℕ → Run) → OnlySaw t [] l mid → OnlyWatched (told cpu) mid m
    → OnlySaw t (told number) l m
then_watched t l mid m cpu number is told saw watched =
    saw_both t [] (told number) l mid m saw (watched_saw t (told number) mid m (subst (λ (n : ℕ). OnlyWatched (told n) mid m) is watched))

module _ (on : Terms) (command : Command) (l m : KnownLocked) (c d : CpuInRun) where
  -- without the lock
  pub unlocked_served : (mid : KnownLocked) (cpu : ℕ) (said : UnlockedAnswer) → cpu ≡ c.part.number → AnswersUnlocked command c d said → OnlySaw on.table [] l mid
      → Gains (steps_unlocked c.part.number command said) (locked_state l c) (locked_state mid d)
      → OnlyWatched (changes_in (steps_unlocked cpu command said)) mid m
      → ServesAnswer on command (locked_state l c) (locked_state m d) (answer.Unlocked said)
  unlocked_served mid cpu said is alone saw gains watched =
      let before = locked_state l c in
      let after = locked_state m d in
      let told : ℕ → Run = λ (n : ℕ). changes_in (steps_unlocked n command said) in
      let steps = steps_unlocked c.part.number command said in
      let gained : Gains steps before after = watched_gains steps (told cpu) before mid m d gains watched in record {
        steps = changes_in steps;
        answered = unlocked_is command (transition on.table before (changes_in steps) after) said alone
            (record { locked = then_watched on.table l mid m cpu c.part.number is told saw watched; steps_are = refl; gains = gained });
        gains = changes_gained steps before after gained;
      }

  -- under the lock, after it was tried in vain
  pub lock_served : (seen : LockedState) (answer : LineAnswer) → IsTriedInVain command (locked_state l c) seen.cpu → OnlySaw on.table [] l seen.locked
      → Gains [] (locked_state l c) seen → (OnlySettles command → seen ≡ locked_state l c)
      → ServesUnderLock on.table on.is_explained command answer seen (locked_state m d) → ServesAnswer on command (locked_state l c) (locked_state m d) answer
  lock_served seen (answer.Served outcome) tried saw gains stays under = record {
    steps = under.steps;
    answered = record { seen = seen; tried = tried; only_saw = saw; served = under.served };
    gains = gains_both (own_past l.machine.run.past) (own_past c.past) [] (own_past seen.locked.machine.run.past) (own_past seen.cpu.past) under.steps
        (own_past m.machine.run.past) (own_past d.past) gains under.gains;
  }
  lock_served seen answer.Settled tried saw gains stays under =
      let here = subst (λ (x : LockedState). ServesUnderLock on.table on.is_explained command answer.Settled x (locked_state m d))
      (stays under.served.answers.is_answer.0) under in record { steps = here.steps; answered = here.served; gains = here.gains }
  lock_served seen (answer.Unlocked said) tried saw gains stays under = absurd under.served.answers.is_answer

-- an allocation of a block isn't tried without the lock
pub block_served : (on : Terms) (path : Bor (List ℕ)) (order : ℕ) (l m : KnownLocked) (c d : CpuInRun) (answer : LineAnswer) → order ≢ 0
    → ServesUnderLock on.table on.is_explained (Alloc path order) answer (locked_state l c) (locked_state m d)
    → ServesAnswer on (Alloc path order) (locked_state l c) (locked_state m d) answer
block_served on path zero l m c d answer block under = absurd (block refl)
block_served on path (suc less) l m c d answer block under =
    lock_served on (Alloc path (suc less)) l m c d (locked_state l c) answer (refl, refl) (saw_none on.table l)
    (gains_none (locked_state l c)) (λ settles. refl) under

-- a frame that wasn't got is no step
pub none_got : (n g : ℕ) (tried : FastAnswer) (before after : LockedState) → ((f : ℕ) → tried ≢ Got f)
    → Gains (steps_unlocked n (Fast g) (unlocked.Fast tried)) before after → Gains [] before after
none_got n g FreshFull before after none gains = gains
none_got n g ListEmpty before after none gains = gains
none_got n g OtherGroup before after none gains = gains
none_got n g Drained before after none gains = gains
none_got n g NoStock before after none gains = gains
none_got n g (Got f) before after none gains = absurd (none f refl)

-- a command that isn't one under the lock, and needs the lock, only settles its CPU
pub only_settles : (command : Command) (c d : CpuInRun) → locked_command_of command ≡ None → NeedsLock command c d → OnlySettles command
only_settles (Fast group) c d none is = absurd is
only_settles (Get frame) c d none is = absurd is
only_settles (Put frame) c d none is = absurd is
only_settles Settle c d none is = tt
only_settles Blocks c d none is = tt
only_settles Show c d none is = tt
only_settles Stock c d none is = tt
only_settles (Units path) c d none is = tt
only_settles command c d none is = absurd (none-some _ (sym none))

-- such a command isn't tried
pub untried : (command : Command) → OnlySettles command → is_tried command ≡ false
untried Settle settles = refl
untried Blocks settles = refl
untried Show settles = refl
untried Stock settles = refl
untried (Units path) settles = refl
untried command settles = absurd settles

-- an Alloc of a single frame, by its path
pub frame_is : (command : Command) (path : Bor (List ℕ)) → frame_path command ≡ Some path → command ≡ Alloc path 0
frame_is (Alloc path zero) found is = let same : path ≡ found = cc in ap (λ (p : Bor (List ℕ)). Alloc p 0) same
frame_is command found is = absurd (none-some found is)

-- what was tried of another command depends on nothing behind the lock
pub vain_is : (command : Command) (l : KnownLocked) (c seen : CpuInRun) → frame_path command ≡ None → NeedsLock command c seen
    → IsTriedInVain command (locked_state l c) seen
vain_is (Alloc path zero) l c seen none is = absurd (none-some path (sym none))
vain_is command l c seen none is = is

-- of those that only settle, a Settle is the one that writes no text of any length
pub is_settle : (command : Command) → OnlySettles command → command ≢ Blocks → command ≢ Show → command ≢ Stock → ((path : Bor (List ℕ)) → command ≢ Units path)
    → command ≡ Settle
is_settle Settle settles blocks show stock units = refl
is_settle Blocks settles blocks show stock units = absurd (blocks refl)
is_settle Show settles blocks show stock units = absurd (show refl)
is_settle Stock settles blocks show stock units = absurd (stock refl)
is_settle (Units path) settles blocks show stock units = absurd (units path refl)
is_settle command settles blocks show stock units = absurd settles

-- a command that was answered by settling only settles
pub value_settles : (on : Terms) (command : Command) (before after : LockedState) (said : LineAnswer)
    → ServesAnswer on command before after said → said ≡ answer.Settled → OnlySettles command
value_settles on command before after said serves is =
    (subst (λ (a : LineAnswer). AnswersCommand on.is_explained command (transition on.table before serves.steps after) a) is serves.answered).answers.is_answer.0

-- the same of one that was answered under the lock
pub locked_settles : (t : KnownTable) (command : Command) (before after : LockedState) (said : LineAnswer)
    → AnswersLocked t command said before after → said ≡ answer.Settled → OnlySettles command
locked_settles t command before after said answers is =
    (subst (λ (a : LineAnswer). AnswersLocked t command a before after) is answers).is_answer.0

-- ---- written

-- what is written of an answer that isn't Settled
pub value_text : (t : KnownTable) (is_explained : Bool) (command : Command) (said : LineAnswer) (left : LockedState) → said ≢ answer.Settled
    → IsAnswerText t is_explained command said
    (reasoned_text is_explained (answer_text left.locked.machine.ledger said) (fault_in said) (borrower_of (head_named command) left.locked.machine)
    ++ explanation_if (is_noted said && is_explained) (path_removed command) left.locked.machine) left
value_text t is_explained command (answer.Served outcome) left other = refl
value_text t is_explained command answer.Settled left other = absurd (other refl)
value_text t is_explained command (answer.Unlocked said) left other = refl

-- what a command writes that only settled its CPU, by which command it is
pub settled_written : {Z T E : Type 0} (t : KnownTable) (is_explained : Bool) (command named : Command) (left : LockedState) (r : Result T E)
    (old new : String Z) (text : List ℕ) → command ≡ named → IsSettledText t is_explained named text left
    → IfOk r (λ _. string_bytes new ≡ string_bytes old ++ text)
    → AddsText r old new (λ said. IsSettledText t is_explained command said left)
settled_written t is_explained command named left r old new text is told added =
    record { text = text; so = subst (λ (x : Command). IsSettledText t is_explained x text left) (sym is) told; added = added }

module _ (said : List ℕ) (refusal : Option Fault) (lent : Option ℕ) (removed : List ℕ) (machine : KnownMachine) (before : List ℕ) where
  -- without a reason and an explanation
  pub plainly : (noted : Bool) (after : List ℕ) → after ≡ before ++ said
      → after ≡ before ++ (reasoned_text false said refusal lent ++ explanation_if (noted && false) removed machine)
  plainly true after is = is ∙ ap (λ (l : List ℕ). before ++ l) (sym (append-nil said))
  plainly false after is = is ∙ ap (λ (l : List ℕ). before ++ l) (sym (append-nil said))

  -- with both
  pub with_both : {T E : Type 0} (r : Result T E) (noted : Bool) (mid more after : List ℕ) → mid ≡ before ++ said
      → more ≡ mid ++ refusal_reason_text refusal lent → IfOk r (λ _. after ≡ more ++ explanation_if noted removed machine)
      → IfOk r (λ _. after ≡ before ++ (reasoned_text true said refusal lent ++ explanation_if (noted && true) removed machine))
  with_both (Ok x) noted mid more after first second third =
      let told = explanation_if noted removed machine in
      let why = refusal_reason_text refusal lent in
      third ∙ (ap (λ (l : List ℕ). l ++ told) (second ∙ ap (λ (l : List ℕ). l ++ why) first ∙ append_assoc before said why)
      ∙ append_assoc before (said ++ why) told) ∙ all noted
    where
      all : (n : Bool) → before ++ ((said ++ refusal_reason_text refusal lent) ++ explanation_if n removed machine)
          ≡ before ++ (reasoned_text true said refusal lent ++ explanation_if (n && true) removed machine)
      all true = refl
      all false = refl
  with_both (Err e) noted mid more after first second third = tt

-- a refusal without the lock has no explanation
pub not_noted : {T E : Type 0} (r : Result T E) (before said after : List ℕ)
    → IfOk r (λ _. after ≡ before ++ (said ++ [])) → IfOk r (λ _. after ≡ before ++ said)
not_noted (Ok x) before said after is = is ∙ ap (λ (l : List ℕ). before ++ l) (append-nil said)
not_noted (Err e) before said after is = tt
