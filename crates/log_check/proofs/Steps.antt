-- One line more, and what it leads to. Serves `Progress`.
use Rattle.std.proofs.Common.{◌≡◌, ℕ, ◌+◌, ◌-◌, List, [], ◌∷◌, ◌++◌, ◌⊎◌, Option, Some, None, inl, inr, filter, length, map, refl, sym, ap, subst, ◌∙◌, append-nil}
use Rattle.std.proofs.Common.{add-one, ap₂, arith, length-append, suc, take}
use Rattle.std.specs.List.{slice_get}
use Rattle.std.specs.Prelude.{IfSome, is_some, true, false}
use Rattle.std.proofs.lemmas.Bool.{false≢true}
use Rattle.std.proofs.lemmas.List.{map-append, take-append-le, take_all, take_at}
use Rattle.step_rules.specs.declared.step.Step.{Step}
use Rattle.step_rules.specs.declared.step.Answer.{Answer}
use Rattle.step_rules.specs.State.{State, sum_to}
use Rattle.step_rules.specs.{Zone, at_boot, is_unheld, one_if, Allows, IsLegalRun, after, state_of}
use Rattle.step_rules.proofs.Sums.{sum_same}
use Rattle.step_rules.proofs.Runs.{legal_more, one_more, state_more}
use Rattle.mem_core.specs.{CoreState, state_shown, Leads}
use Rattle.log_lines.specs.declared.line.LogLine.{LogLine}
use Rattle.log_lines.specs.declared.line.LogLine.TheVariants as kinds
use Rattle.log_lines.specs.Log.{MayBegin, SayInOrder, WholeLog, says_something, line_of_zone}
use Rattle.log_lines.proofs.BadLines.{filter_append}
use Rattle.log_lines.proofs.Logs.{line_of_entry}
use Rattle.log_check.specs.declared.line_fault.LineFault.TheVariants.{SizesAgain, StepFirst}
use Rattle.log_check.specs.declared.verdict.IllegalStep.{IllegalStep}
use Rattle.log_check.specs.{IsIllegalAt, IsMisplaced, LeavesOut, Reached, at_start, line_on, step_on, free_count, Checked, EndsIllegally}
use Rattle.log_check.specs.{IsReason}
use Rattle.log_check.proofs.Exact.{legal_front}
use Rattle.log_check.specs.declared.reason.Reason.{Reason}

-- the log with one step more
abbrev pub log_more : WholeLog → Step → Answer → WholeLog
log_more log step answer = record { zone = log.zone; run = one_more log.run step answer }

-- ---- what is left out

-- the lines before, and then more
pub left_more : (at : Reached) (lines more : List LogLine) (left others : List IllegalStep) (middle end : Reached) → LeavesOut at lines left middle
    → LeavesOut middle more others end → LeavesOut at (lines ++ more) (left ++ others) end
left_more at [] more left others middle end one two =
    subst (λ (l : List IllegalStep). LeavesOut at more (l ++ others) end) (sym one.0) (subst (λ (x : Reached). LeavesOut x more others end) one.1 two)
left_more at (kinds.Skipped ∷ lines) more left others middle end one two = left_more (line_on at) lines more left others middle end one two
left_more at (kinds.Zone frames cpus groups ∷ lines) more left others middle end one two = left_more (line_on at) lines more left others middle end one two
left_more at (kinds.Step step answer ∷ lines) more left others middle end (inl made) two =
    inl (made.0, left_more (step_on at (after at.state step.seat step.action answer)) lines more left others middle end made.1 two)
left_more at (kinds.Step step answer ∷ lines) more left others middle end (inr x) two =
    inr (x.0, x.1 ++ others, ap (λ (l : List IllegalStep). l ++ others) x.2, x.3, left_more (step_on at at.state) lines more x.1 others middle end x.4 two)

-- the lines before, and then one of which no step is left out
none_more : (at : Reached) (lines : List LogLine) (line : LogLine) (left : List IllegalStep) (middle end : Reached) → LeavesOut at lines left middle
    → LeavesOut middle (line ∷ []) [] end → LeavesOut at (lines ++ line ∷ []) left end
none_more at lines line left middle end one two =
    subst (λ (l : List IllegalStep). LeavesOut at (lines ++ line ∷ []) l end) (append-nil left) (left_more at lines (line ∷ []) left [] middle end one two)

-- ---- a skipped line

skipped_says : (lines : List LogLine) → filter says_something (lines ++ kinds.Skipped ∷ []) ≡ filter says_something lines
skipped_says lines = filter_append lines (kinds.Skipped ∷ []) ∙ append-nil (filter says_something lines)

pub takes_skipped : (checker : Option CoreState) (count : ℕ) (lines : List LogLine) (steps free : ℕ) (left : List IllegalStep)
    → Checked checker count lines steps free left → Checked checker (count + 1) (lines ++ kinds.Skipped ∷ []) steps free left
takes_skipped None count lines steps free left checked = record {
  empty = skipped_says lines ∙ checked.empty;
  no_steps = checked.no_steps;
  none_free = checked.none_free;
  none_left = checked.none_left;
  leaves = λ s. none_more _ lines kinds.Skipped [] _ _ (checked.leaves s) (refl, refl);
}
takes_skipped (Some s) count lines steps free left checked = record {
  log = checked.log;
  order = skipped_says lines ∙ checked.order;
  steps_are = checked.steps_are;
  made = checked.made;
  legal = checked.legal;
  state = checked.state;
  free_is = checked.free_is;
  leaves = none_more _ lines kinds.Skipped left _ _ checked.leaves (refl, refl);
  whole = checked.whole;
  none = checked.none;
}

-- ---- the sizes of the zone

no_steps_legal : (zone : Zone) → IsLegalRun zone []
no_steps_legal zone k = tt

no_steps_free : (zone : Zone) → free_count zone [] ≡ 0
unfolding sum_to
no_steps_free zone = refl

pub takes_zone : (count : ℕ) (lines : List LogLine) (zone : Zone) (steps free : ℕ) (left : List IllegalStep) (s : CoreState)
    → Checked None count lines steps free left → state_shown s ≡ at_boot zone
    → Checked (Some s) (count + 1) (lines ++ line_of_zone zone ∷ []) steps free left
takes_zone count lines zone steps free left s nothing state =
    let boot = at_boot zone in
    let leaves : LeavesOut (record { lines = 0; steps = 0; state = boot }) (lines ++ line_of_zone zone ∷ []) []
    (record { lines = count + 1; steps = 0; state = boot }) =
    none_more _ lines (line_of_zone zone) [] _ _ (nothing.leaves boot) (refl, refl) in
    record {
      log = record { zone = zone; run = [] };
      order = filter_append lines (line_of_zone zone ∷ []) ∙ ap (λ (ls : List LogLine). ls ++ line_of_zone zone ∷ []) nothing.empty;
      steps_are = nothing.no_steps;
      made = [];
      legal = no_steps_legal zone;
      state = state;
      free_is = nothing.none_free ∙ sym (no_steps_free zone);
      leaves = subst (λ (l : List IllegalStep). LeavesOut (at_start zone) (lines ++ line_of_zone zone ∷ []) l (record { lines = count + 1; steps = steps; state = boot }))
          (sym nothing.none_left) (subst (λ (n : ℕ). LeavesOut (at_start zone) (lines ++ line_of_zone zone ∷ []) [] (record { lines = count + 1; steps = n; state = boot }))
          (sym nothing.no_steps) leaves);
      whole = λ none. refl;
      none = λ legal. nothing.none_left;
    }

-- the steps of no log are followed by the sizes of a zone
no_zone_among : (run more : List (Step × Answer)) (zone : Zone) → map line_of_entry run ++ line_of_zone zone ∷ [] ≡ map line_of_entry more → ⊥
no_zone_among [] [] zone e = cc
no_zone_among [] (y ∷ more) zone e = cc
no_zone_among (x ∷ run) [] zone e = cc
no_zone_among (x ∷ run) (y ∷ more) zone e =
    let tails : map line_of_entry run ++ line_of_zone zone ∷ [] ≡ map line_of_entry more = cc in
    no_zone_among run more zone tails

second_in_order : (log other : WholeLog) (zone : Zone)
    → line_of_zone log.zone ∷ (map line_of_entry log.run ++ line_of_zone zone ∷ []) ≡ line_of_zone other.zone ∷ map line_of_entry other.run → ⊥
second_in_order log other zone e =
    let tails : map line_of_entry log.run ++ line_of_zone zone ∷ [] ≡ map line_of_entry other.run = cc in
    no_zone_among log.run other.run zone tails

second_zone : (said : List LogLine) (log : WholeLog) (zone : Zone)
    → said ≡ line_of_zone log.zone ∷ (map line_of_entry log.run ++ line_of_zone zone ∷ [])
    → ((said ≡ []) ⊎ ((other : WholeLog) × (said ≡ line_of_zone other.zone ∷ map line_of_entry other.run))) → ⊥
second_zone said log zone e (inl none) = cc
second_zone said log zone e (inr other) = second_in_order log other.0 zone (sym e ∙ other.1)

pub refuses_zone : (count : ℕ) (lines : List LogLine) (zone : Zone) (steps free : ℕ) (left : List IllegalStep) (s : CoreState)
    → Checked (Some s) count lines steps free left → ¬ MayBegin (lines ++ line_of_zone zone ∷ [])
refuses_zone count lines zone steps free left s checked begins =
    second_zone (filter says_something (lines ++ line_of_zone zone ∷ [])) checked.log zone
    (filter_append lines (line_of_zone zone ∷ []) ∙ ap (λ (ls : List LogLine). ls ++ line_of_zone zone ∷ []) checked.order) begins

some_lines : (log : WholeLog) (said : List LogLine) → said ≡ line_of_zone log.zone ∷ map line_of_entry log.run → said ≡ [] → ⊥
some_lines log said order none = let same = sym order ∙ none in cc

pub second_sizes : (checker : Option CoreState) (count : ℕ) (lines : List LogLine) (zone : Zone) (steps free : ℕ) (left : List IllegalStep)
    → is_some checker ≡ true → Checked checker count lines steps free left
    → ¬ MayBegin (lines ++ line_of_zone zone ∷ []) × IsMisplaced SizesAgain lines (line_of_zone zone)
second_sizes None count lines zone steps free left some checked = absurd (false≢true some)
second_sizes (Some s) count lines zone steps free left some checked = (
  refuses_zone count lines zone steps free left s checked,
  some_lines checked.log (filter says_something lines) checked.order,
)

pub no_sizes : (checker : Option CoreState) (count : ℕ) (lines : List LogLine) (steps free : ℕ) (left : List IllegalStep) → is_some checker ≡ false
    → Checked checker count lines steps free left → Checked None count lines steps free left
no_sizes None count lines steps free left none checked = checked
no_sizes (Some s) count lines steps free left none checked = absurd (false≢true (sym none))

-- ---- a step

first_step : (said : List LogLine) (step : Step) (answer : Answer) → said ≡ kinds.Step step answer ∷ []
    → ((said ≡ []) ⊎ ((other : WholeLog) × (said ≡ line_of_zone other.zone ∷ map line_of_entry other.run))) → ⊥
first_step said step answer e (inl none) = cc
first_step said step answer e (inr other) = let same = sym e ∙ other.1 in cc

pub refuses_step : (count : ℕ) (lines : List LogLine) (step : Step) (answer : Answer) (steps free : ℕ) (left : List IllegalStep)
    → Checked None count lines steps free left
    → ¬ MayBegin (lines ++ kinds.Step step answer ∷ []) × IsMisplaced StepFirst lines (kinds.Step step answer)
refuses_step count lines step answer steps free left nothing = (
  λ begins. first_step (filter says_something (lines ++ kinds.Step step answer ∷ [])) step answer
      (filter_append lines (kinds.Step step answer ∷ []) ∙ ap (λ (ls : List LogLine). ls ++ kinds.Step step answer ∷ []) nothing.empty) begins,
  nothing.empty,
)

step_in_order : (lines : List LogLine) (log : WholeLog) (step : Step) (answer : Answer) → SayInOrder lines log
    → SayInOrder (lines ++ kinds.Step step answer ∷ []) (log_more log step answer)
step_in_order lines log step answer order =
    filter_append lines (kinds.Step step answer ∷ []) ∙ ap (λ (ls : List LogLine). ls ++ kinds.Step step answer ∷ []) order
    ∙ ap (λ (ls : List LogLine). line_of_zone log.zone ∷ ls) (sym (map-append line_of_entry log.run ((step, answer) ∷ [])))

get_last : {X : Type 0} (xs : List X) (x : X) → slice_get (xs ++ x ∷ []) (length xs) ≡ Some x
get_last [] x = refl
get_last (y ∷ ys) x = get_last ys x

-- with one step more the lock is free once more, if the step leaves it free
free_more : (zone : Zone) (run : List (Step × Answer)) (step : Step) (answer : Answer)
    → free_count zone (one_more run step answer) ≡ free_count zone run + one_if (is_unheld (state_of zone (one_more run step answer)).hold)
unfolding sum_to
free_more zone run step answer =
    let all = one_more run step answer in
    let long : length all ≡ length run + 1 = length-append run ((step, answer) ∷ []) in
    let test : List (Step × Answer) → ℕ = λ (r : List (Step × Answer)). one_if (is_unheld (state_of zone r).hold) in
    let before : sum_to (length run) (λ k. test (take (k + 1) all)) ≡ sum_to (length run) (λ k. test (take (k + 1) run)) =
    sum_same (length run) (λ k. test (take (k + 1) all)) (λ k. test (take (k + 1) run))
    (λ i less. ap test (take-append-le (i + 1) run ((step, answer) ∷ []) (omega arith))) in
    let last : test (take (length run + 1) all) ≡ test all = ap test (take_all (length run + 1) all (omega (arith, long))) in
    let whole : sum_to (length all) (λ k. test (take (k + 1) all)) ≡ sum_to (suc (length run)) (λ k. test (take (k + 1) all)) =
    ap (λ n. sum_to n (λ k. test (take (k + 1) all))) (long ∙ add-one (length run)) in
    whole ∙ ap₂ (λ (a b : ℕ). a + b) before last

abbrev reached : (lines steps : ℕ) → State → Reached
reached lines steps s = record { lines = lines; steps = steps; state = s }

pub takes_step : (count : ℕ) (lines : List LogLine) (step : Step) (answer : Answer) (s t : CoreState) (steps free later : ℕ) (left : List IllegalStep)
    → Checked (Some s) count lines steps free left → Leads (state_shown s) step answer (state_shown t)
    → later ≡ free + one_if (is_unheld (state_shown t).hold)
    → Checked (Some t) (count + 1) (lines ++ kinds.Step step answer ∷ []) (steps + 1) later left
takes_step count lines step answer s t steps free later left checked leads counted =
    let log = checked.log in
    let zone = log.zone in
    let made = checked.made in
    let all = one_more made step answer in
    let here : Allows (state_of zone made) step.seat step.action answer =
    subst (λ (x : State). Allows x step.seat step.action answer) checked.state leads.allowed in
    let there : state_shown t ≡ state_of zone all =
    leads.state ∙ ap (λ (x : State). after x step.seat step.action answer) checked.state ∙ sym (state_more zone made step answer) in
    let end : reached (count + 1) (steps + 1) (state_of zone all)
    ≡ reached (count + 1) (steps + 1) (after (state_of zone made) step.seat step.action answer) =
    ap (reached (count + 1) (steps + 1)) (state_more zone made step answer) in
    record {
      log = log_more log step answer;
      order = step_in_order lines log step answer checked.order;
      steps_are = ap (λ n. n + 1) checked.steps_are ∙ sym (length-append log.run ((step, answer) ∷ []));
      made = all;
      legal = legal_more zone made step answer checked.legal here;
      state = there;
      free_is = counted ∙ ap₂ (λ (a b : ℕ). a + b) checked.free_is (ap (λ (x : State). one_if (is_unheld x.hold)) there)
          ∙ sym (free_more zone made step answer);
      leaves = none_more _ lines (kinds.Step step answer) left _ _ checked.leaves (inl (here, (refl, end)));
      whole = λ none. ap (λ (r : List (Step × Answer)). one_more r step answer) (checked.whole none);
      none = λ legal. checked.none (legal_front zone log.run ((step, answer) ∷ []) legal);
    }

none_behind : (left : List IllegalStep) (illegal : IllegalStep) → left ++ illegal ∷ [] ≡ [] → ⊥
none_behind [] illegal e = cc
none_behind (x ∷ left) illegal e = cc

-- the last step of a legal run is allowed
last_allowed : (zone : Zone) (run : List (Step × Answer)) (step : Step) (answer : Answer) → IsLegalRun zone (one_more run step answer)
    → Allows (state_of zone run) step.seat step.action answer
last_allowed zone run step answer legal =
    let all = one_more run step answer in
    let allowed : Allows (state_of zone (take (length run) all)) step.seat step.action answer =
    subst (λ (o : Option (Step × Answer)). IfSome o (λ e. Allows (state_of zone (take (length run) all)) e.0.seat e.0.action e.1)) (get_last run (step, answer))
    (legal (length run)) in
    subst (λ (r : List (Step × Answer)). Allows (state_of zone r) step.seat step.action answer) (take_at run ((step, answer) ∷ []) (length run) refl) allowed

pub leaves_step : (count : ℕ) (lines : List LogLine) (step : Step) (answer expected : Answer) (reason : Reason) (s t : CoreState) (steps free : ℕ)
    (left : List IllegalStep) → Checked (Some s) count lines steps free left → t ≡ s
    → ¬ Allows (state_shown s) step.seat step.action answer → Allows (state_shown s) step.seat step.action expected
    → IsReason (state_shown s) step answer expected reason
    → Checked (Some t) (count + 1) (lines ++ kinds.Step step answer ∷ []) (steps + 1) free
    (left ++ record { line = count + 1; step = steps + 1; expected = expected; reason = reason } ∷ [])
leaves_step count lines step answer expected reason s t steps free left checked same denied allowed why =
    let log = checked.log in
    let zone = log.zone in
    let made = checked.made in
    let illegal : IllegalStep = record { line = count + 1; step = steps + 1; expected = expected; reason = reason } in
    let at : Reached = record { lines = count; steps = steps; state = state_of zone made } in
    let is : IsIllegalAt at step answer illegal = record {
      line_is = refl;
      step_is = refl;
      denied = subst (λ (x : State). ¬ Allows x step.seat step.action answer) checked.state denied;
      allowed = subst (λ (x : State). Allows x step.seat step.action expected) checked.state allowed;
      why = subst (λ (x : State). IsReason x step answer expected reason) checked.state why;
    } in
    record {
      log = log_more log step answer;
      order = step_in_order lines log step answer checked.order;
      steps_are = ap (λ n. n + 1) checked.steps_are ∙ sym (length-append log.run ((step, answer) ∷ []));
      made = made;
      legal = checked.legal;
      state = ap state_shown same ∙ checked.state;
      free_is = checked.free_is;
      leaves = left_more _ lines (kinds.Step step answer ∷ []) left (illegal ∷ []) at _ checked.leaves (inr (illegal, [], refl, is, (refl, refl)));
      whole = λ none. absurd (none_behind left illegal none);
      none = λ legal.
          let empty = checked.none (legal_front zone log.run ((step, answer) ∷ []) legal) in
          let run : state_shown s ≡ state_of zone log.run = checked.state ∙ ap (state_of zone) (checked.whole empty) in
          absurd (denied (subst (λ (x : State). Allows x step.seat step.action answer) (sym run) (last_allowed zone log.run step answer legal)));
    }

pub ends_illegally : (count : ℕ) (lines : List LogLine) (step : Step) (answer expected : Answer) (reason : Reason) (s : CoreState) (steps free : ℕ)
    (left : List IllegalStep) → Checked (Some s) count lines steps free left
    → ¬ Allows (state_shown s) step.seat step.action answer → Allows (state_shown s) step.seat step.action expected
    → IsReason (state_shown s) step answer expected reason → left ≡ []
    → EndsIllegally (lines ++ kinds.Step step answer ∷ []) (steps + 1) expected reason
ends_illegally count lines step answer expected reason s steps free left checked denied allowed why none =
    let log = checked.log in
    let zone = log.zone in
    let run = one_more log.run step answer in
    let long : length run ≡ length log.run + 1 = length-append log.run ((step, answer) ∷ []) in
    let counted = checked.steps_are in
    let index : length log.run ≡ steps + 1 - 1 = omega (arith, counted) in
    let front : checked.made ≡ take (length log.run) run = checked.whole none ∙ sym (take_at log.run ((step, answer) ∷ []) (length log.run) refl) in
    let here : state_shown s ≡ state_of zone (take (steps + 1 - 1) run) =
    checked.state ∙ ap (state_of zone) front ∙ ap (λ k. state_of zone (take k run)) index in
    record {
      log = log_more log step answer;
      order = step_in_order lines log step answer checked.order;
      count = omega (arith, counted, long);
      first = record {
        before = subst (λ k. IsLegalRun zone (take k run)) index (subst (IsLegalRun zone) front checked.legal);
        step = step;
        answer = answer;
        there = subst (λ k. slice_get run k ≡ Some (step, answer)) index (get_last log.run (step, answer));
        denied = subst (λ (x : State). ¬ Allows x step.seat step.action answer) here denied;
        allowed = subst (λ (x : State). Allows x step.seat step.action expected) here allowed;
      };
      why = subst (λ (x : State). IsReason x step answer expected reason) here why;
    }
