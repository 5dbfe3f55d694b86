-- What the zone's past and a CPU's past gain by a command, and how the run so far goes on. Serves `try_unlocked`,
-- `try_in_order`, `alloc_in_order`, and what is told of each line.
use Rattle.std.proofs.Common.{◌≡◌, ◌≢◌, ◌∙◌, ℕ, Bool, true, false, Option, Some, None, List, [], ◌∷◌, ◌++◌, append_assoc, append-nil, ap, arith, inl, inr, refl, subst, sym}
use Rattle.std.specs.Prelude.{IfNone, IfSome, Ok, cond, not, slice_set, if◌then◌else◌}
use Rattle.std.specs.Option.{option_map}
use Rattle.std.specs.List.{slice_get}
use Rattle.std.proofs.lemmas.List.{map-set}
use Rattle.std.proofs.lemmas.Option.{slice_get-map}
use Rattle.boot_words.specs.declared.past.Past.{Past}
use Rattle.boot_words.specs.{AllOf, AreChangesOf, KnownPasts, Meets, own_past, GrewByAll, IsRunSoFar, changes_nothing, KnownTable}
use Rattle.boot_words.proofs.Gaining.{gains_go_on, meet_gains, none_gains}
use Rattle.boot_words.proofs.Ordered.{as_many, changes_in_order, has_through, without_both, without_none}
use Rattle.frame_word.specs.declared.answers.Get.{Get}
use Rattle.frame_word.specs.declared.answers.Get.TheVariants as get
use Rattle.frame_word.specs.declared.answers.Put.{Put}
use Rattle.frame_word.specs.declared.answers.Put.TheVariants as put
use Rattle.stock_word.specs.declared.stock.Stock.{Stock}
use Rattle.stock_word.specs.Stock.{is_held}
use Rattle.group_tree.specs.declared.fault.Fault.TheVariants.{PinsFull, NotPinned}
use Rattle.cpu_part.specs.declared.answers.Fast.{Fast}
use Rattle.cpu_part.specs.declared.answers.Fast.TheVariants as fast
use Rattle.cpu_part.specs.Told.{steps_of_fast, steps_of_get, steps_of_put}
use Rattle.step_rules.specs.declared.step.Step.{Step}
use Rattle.step_rules.specs.declared.step.Action.{Action}
use Rattle.step_rules.specs.declared.step.Action.TheVariants as step
use Rattle.step_rules.specs.declared.step.Answer.{Answer}
use Rattle.step_rules.specs.declared.step.Answer.TheVariants as step_answer
use Rattle.step_rules.specs.After.{Run, cpu_makes}
use Rattle.step_watch.specs.Watched.{Watches}
use Rattle.step_watch.proofs.Watching.{watches_both, watches_none}
use Rattle.mem_machine.specs.Machines.{left_by, with_past}
use Rattle.mem_system.specs.{CpuInRun, pasts_of, KnownLocked, LockedState, locked_state}
use Rattle.reply_texts.specs.declared.steps.UnlockedAnswer.{UnlockedAnswer}
use Rattle.reply_texts.specs.declared.steps.UnlockedAnswer.TheVariants as unlocked
use Rattle.script_lines.specs.declared.line.Command.TheVariants as command
use Rattle.script_lines.specs.declared.line.Command.{Command}
use Rattle.script_replay.specs.Answers.{AnswersUnlocked, Gains, MakesUnlocked, NeedsLock, OnlySaw, OnlyWatched, changes_in, locked_with_run, steps_unlocked}
use Rattle.script_replay.specs.Lines.{AllLinesGoOn, RunGoesOn, HasRun, SystemState, steps_of_served, system_state}

-- ---- the steps of a call without the lock

module _ (n : ℕ) (before after : KnownPasts) where
  -- no step
  nothing : GrewByAll (own_past before) [] (own_past after) → MakesUnlocked n [] before after
  nothing grew = record { made = []; grew = grew; changes = refl; own = tt }

  -- one step that is told
  told : (action : Action) (answer : Answer) → GrewByAll (own_past before) (cpu_makes n action answer ∷ []) (own_past after)
      → MakesUnlocked n (cpu_makes n action answer ∷ []) before after
  told action answer grew = record { made = cpu_makes n action answer ∷ []; grew = grew; changes = inr ([], refl, refl); own = (refl, tt) }

  -- one step that changes nothing
  quiet : (action : Action) (answer : Answer) → changes_nothing answer ≡ true → GrewByAll (own_past before) (cpu_makes n action answer ∷ []) (own_past after)
      → MakesUnlocked n [] before after
  quiet action answer none grew = record { made = cpu_makes n action answer ∷ []; grew = grew; changes = inl (none, refl); own = (refl, tt) }

  -- a step that finds the stock drained, if it was made
  drained : (action : Action) (b : Bool) → GrewByAll (own_past before) (if b then cpu_makes n action step_answer.Drained ∷ [] else []) (own_past after)
      → MakesUnlocked n [] before after
  drained action true grew = quiet action step_answer.Drained refl grew
  drained action false grew = nothing grew

  pub fast_made : (g : ℕ) (answer : Fast) (last : Stock) → GrewByAll (own_past before) (steps_of_fast n g answer last) (own_past after)
      → MakesUnlocked n (steps_unlocked n (command.Fast g) (unlocked.Fast answer)) before after
  fast_made g (fast.Got f) last grew = told (step.Consume g) step_answer.Took grew
  fast_made g fast.Drained last grew = drained (step.Consume g) (is_held last) grew
  fast_made g fast.FreshFull last grew = nothing grew
  fast_made g fast.ListEmpty last grew = nothing grew
  fast_made g fast.OtherGroup last grew = nothing grew
  fast_made g fast.NoStock last grew = nothing grew

  pub no_fast_made : (g : ℕ) (answer : Fast) (last : Stock) → ((frame : ℕ) → answer ≢ fast.Got frame)
      → GrewByAll (own_past before) (steps_of_fast n g answer last) (own_past after) → MakesUnlocked n [] before after
  no_fast_made g (fast.Got f) last none grew = absurd (none f refl)
  no_fast_made g answer last none grew = fast_made g answer last grew

  pub get_made : (f : ℕ) (answer : Get) → GrewByAll (own_past before) (steps_of_get n f (Ok answer)) (own_past after)
      → MakesUnlocked n (steps_unlocked n (command.Get f) (unlocked.Got answer)) before after
  get_made f get.Held grew = told (step.Get f) step_answer.Held grew
  get_made f get.Zero grew = told (step.Get f) step_answer.Zero grew
  get_made f get.Full grew = told (step.Get f) step_answer.Full grew
  get_made f (get.Raced found) grew = nothing grew

  pub put_made : (f : ℕ) (answer : Put) → GrewByAll (own_past before) (steps_of_put n f answer) (own_past after)
      → MakesUnlocked n (steps_unlocked n (command.Put f) (unlocked.Put answer)) before after
  put_made f (put.Left left) grew = told (step.Put f) (step_answer.Left left) grew
  put_made f put.Last grew = told (step.Put f) step_answer.Last grew

-- ---- behind the lock

pub saw_none : (t : KnownTable) (l : KnownLocked) → OnlySaw t [] l l
saw_none t l = record { locked = refl; watched = watches_none l.machine.run.watch; left = refl }

-- the zone's past sees more at a meeting, and leaves the same
met_saw : (t : KnownTable) (l m : KnownLocked) (c c' : KnownPasts) → m ≡ record l { machine = with_past l.machine m.machine.run.past }
    → Meets t l.machine.run.past c m.machine.run.past c' → OnlySaw t [] l m
met_saw t l m c c' is meets = record {
  locked = is ∙ ap (λ (x : KnownLocked). locked_with_run l x.machine.run) (sym is);
  watched = subst (λ (x : KnownLocked). Watches l.machine.run.watch [] x.machine.run.watch) (sym is) (watches_none l.machine.run.watch);
  left = meets.left;
}

pub watched_saw : (t : KnownTable) (steps : Run) (l m : KnownLocked) → OnlyWatched steps l m → OnlySaw t steps l m
watched_saw t steps l m only = record {
  locked = only.locked ∙ ap (λ (x : KnownLocked). locked_with_run l x.machine.run) (sym only.locked);
  watched = only.watched;
  left = ap (λ (x : KnownLocked). left_by t x.machine.run.past) only.locked;
}

pub saw_both : (t : KnownTable) (one two : Run) (l m n : KnownLocked) → OnlySaw t one l m → OnlySaw t two m n → OnlySaw t (one ++ two) l n
saw_both t one two l m n first second = record {
  locked = second.locked ∙ ap (λ (x : KnownLocked). locked_with_run x n.machine.run) first.locked;
  watched = watches_both l.machine.run.watch one m.machine.run.watch two n.machine.run.watch first.watched second.watched;
  left = second.left ∙ first.left;
}

-- both meetings around a call without the lock
pub both_saw : (t : KnownTable) (l m n : KnownLocked) (c c' d d' : KnownPasts) → m ≡ record l { machine = with_past l.machine m.machine.run.past }
    → Meets t l.machine.run.past c m.machine.run.past c' → n ≡ record m { machine = with_past m.machine n.machine.run.past }
    → Meets t m.machine.run.past d n.machine.run.past d' → OnlySaw t [] l n
both_saw t l m n c c' d d' is meets later again = saw_both t [] [] l m n (met_saw t l m c c' is meets) (met_saw t m n d d' later again)

-- ---- a call between two meetings: what it says names no past

unlocked_anywhere : (command : Command) (c d : CpuInRun) (said : UnlockedAnswer) (p q : KnownPasts) → AnswersUnlocked command c d said
    → AnswersUnlocked command (record c { past = p }) (record d { past = q }) said
unlocked_anywhere (command.Fast g) c d (unlocked.Fast fast) p q is = is
unlocked_anywhere (command.Get f) c d (unlocked.Got got) p q is = is
unlocked_anywhere (command.Get f) c d (unlocked.Refused PinsFull) p q is = is
unlocked_anywhere (command.Put f) c d (unlocked.Put put) p q is = is
unlocked_anywhere (command.Put f) c d (unlocked.Refused NotPinned) p q is = is
unlocked_anywhere (command.Release f) c d unlocked.Listed p q is = record { fresh = is.fresh; listed = is.listed }
unlocked_anywhere command c d said p q is = absurd is

vain_anywhere : (command : Command) (c d : CpuInRun) (p q : KnownPasts) → NeedsLock command c d → NeedsLock command (record c { past = p }) (record d { past = q })
vain_anywhere (command.Release f) c d p q (inl is) = inl (record { none_fresh = is.none_fresh; stays = is.stays })
vain_anywhere (command.Release f) c d p q (inr is) = inr (record { fresh = is.fresh; drained = is.drained })
vain_anywhere (command.Fast g) c d p q is = absurd is
vain_anywhere (command.Get f) c d p q is = absurd is
vain_anywhere (command.Put f) c d p q is = absurd is
vain_anywhere command c d p q is = is

module _ (command : Command) (c c1 c2 d : CpuInRun) (part : c1.part ≡ c.part) (last : c1.last ≡ c.last) (part' : d.part ≡ c2.part) (last' : d.last ≡ c2.last) where
  -- the same, but for the pasts
  met : (Is : CpuInRun → CpuInRun → Type 0) → Is (record c1 { past = c.past }) (record c2 { past = d.past }) → Is c d
  met Is = subst (λ (x : CpuInRun × CpuInRun). Is x.0 x.1)
      (λ i. (record { part = part i; past = c.past; last = last i }, record { part = sym part' i; past = d.past; last = sym last' i }))

  pub unlocked_met : (o : Option UnlockedAnswer) → IfSome o (AnswersUnlocked command c1 c2) → IfSome o (AnswersUnlocked command c d)
  unlocked_met None is = tt
  unlocked_met (Some said) is = met (λ x y. AnswersUnlocked command x y said) (unlocked_anywhere command c1 c2 said c.past d.past is)

  pub vain_met : (o : Option UnlockedAnswer) → IfNone o (NeedsLock command c1 c2) → IfNone o (NeedsLock command c d)
  vain_met None is = met (NeedsLock command) (vain_anywhere command c1 c2 c.past d.past is)
  vain_met (Some said) is = tt

-- ---- what the pasts gain

pub gains_none : (before : LockedState) → Gains [] before before
gains_none before = none_gains (own_past before.locked.machine.run.past) (own_past before.cpu.past) [] (own_past before.cpu.past) refl refl

-- the watch has no past
pub watched_gains : (steps more : Run) (before : LockedState) (l m : KnownLocked) (d : CpuInRun) → Gains steps before (locked_state l d) → OnlyWatched more l m
    → Gains steps before (locked_state m d)
watched_gains steps more before l m d gains only =
    subst (λ (z : KnownLocked). Gains steps before (locked_state z d)) (sym only.locked) gains

-- a run without its steps that change nothing
are_changes : (run : Run) → AreChangesOf run (changes_in run)
are_changes [] = refl
are_changes (e ∷ run) = by_cases (changes_nothing e.1) refl (are_changes run)
  where
    by_cases : (quiet : Bool) → changes_nothing e.1 ≡ quiet → AreChangesOf run (changes_in run)
        → AreChangesOf (e ∷ run) (cond (not quiet) (e ∷ changes_in run) (changes_in run))
    by_cases true is rest = inl (is, rest)
    by_cases false is rest = inr (changes_in run, refl, rest)

-- the pasts that gain steps gain those that change something
pub changes_gained : (steps : Run) (before after : LockedState) → Gains steps before after → Gains (changes_in steps) before after
changes_gained steps before after gains =
    let are = are_changes steps in
    let any : Step × Answer → Type 0 = λ made. Unit {0} in record {
      zone_number = gains.zone_number;
      cpu_number = gains.cpu_number;
      in_order = λ earlier has. has_through (own_past after.locked.machine.run.past).seen (earlier ++ steps) (earlier ++ changes_in steps)
          (gains.in_order earlier has)
          (without_both any earlier earlier steps (changes_in steps) (without_none any earlier) (changes_in_order steps (changes_in steps) are));
      of_zone = let all = gains.of_zone in let same = as_many 0 steps (changes_in steps) are in omega (arith, all, same);
      of_cpu =
          let n = (own_past before.cpu.past).number in
          let all = gains.of_cpu in let same = as_many n steps (changes_in steps) are in omega (arith, all, same);
      of_others = λ other not_zone ne. as_many other steps (changes_in steps) are ∙ gains.of_others other not_zone ne;
    }

-- a call without the lock, between two meetings
pub met_gains : (t : KnownTable) (l l1 l2 : KnownLocked) (c c1 c2 c3 : CpuInRun) (steps : ℕ → Run) → (own_past c.past).number ≡ c.part.number
    → c1.part ≡ c.part → Meets t l.machine.run.past c.past l1.machine.run.past c1.past → MakesUnlocked c1.part.number (steps c1.part.number) c1.past c2.past
    → Meets t l1.machine.run.past c2.past l2.machine.run.past c3.past → Gains (steps c.part.number) (locked_state l c) (locked_state l2 c3)
met_gains t l l1 l2 c c1 c2 c3 steps in_run same first makes second =
    let made : MakesUnlocked c.part.number (steps c.part.number) c1.past c2.past =
    subst (λ part. MakesUnlocked part.number (steps part.number) c1.past c2.past) same makes in
    meet_gains t l.machine.run.past c.past l1.machine.run.past c1.past made.made c2.past l2.machine.run.past c3.past (steps c.part.number) first made.grew
    second made.changes (subst (λ (n : ℕ). AllOf (λ (one : Step × Answer). one.0.seat ≡ n) made.made) (sym in_run) made.own)

-- ---- the run so far

pub goes_on_none : (s : SystemState) → RunGoesOn [] s s
goes_on_none s earlier has = subst (λ (r : Run). HasRun r s) (sym (append-nil earlier)) has

-- what a CPU gains, the run so far gains
pub part_goes_on : (l m : KnownLocked) (cpus : List CpuInRun) (k : ℕ) (c d : CpuInRun) (steps : Run) → slice_get cpus k ≡ Some c
    → Gains steps (locked_state l c) (locked_state m d) → RunGoesOn steps (system_state l cpus) (system_state m (slice_set cpus k d))
part_goes_on l m cpus k c d steps is_part gains earlier has =
    let past_of : CpuInRun → Past = λ cpu. own_past cpu.past in
    subst (IsRunSoFar (earlier ++ steps) (own_past m.machine.run.past)) (sym (map-set past_of cpus k d))
    (gains_go_on earlier steps (own_past l.machine.run.past) (own_past m.machine.run.past) (pasts_of cpus) k (own_past c.past) (own_past d.past) has
    (slice_get-map past_of cpus k ∙ ap (option_map past_of) is_part) gains)

-- lines go on by their steps
pub all_lines_go_on : AllLinesGoOn
all_lines_go_on on [] s e text served earlier has =
    subst (λ (x : Run × SystemState). HasRun x.0 x.1) (λ i. (sym (append-nil earlier) i, sym served.1 i)) has
all_lines_go_on on (line ∷ lines) s e text served earlier has =
    let one = served.serves_first.steps in
    let more = steps_of_served on lines served.between e served.rest served.serves_rest in
    subst (λ (r : Run). HasRun r e) (append_assoc earlier one more)
    (all_lines_go_on on lines served.between e served.rest served.serves_rest (earlier ++ one) (served.serves_first.goes_on earlier has))
