-- How a step moves usage, and the greatest usage since a group was made. Serves `only_grants_raise_usage`, `peaks_are_kept`.
use Rattle.std.proofs.Common.{◌≡◌, ℕ, ◌+◌, ◌-◌, ◌≤◌, ◌==◌, Bool, true, false, List, [], ◌∷◌, length, take, refl, sym, ◌∙◌, ap, subst, arith, inl, min}
use Rattle.std.proofs.Common.{inr, cond, eq-eqb, length-append}
use Rattle.std.specs.Prelude.{◌⊎◌, max}
use Rattle.std.proofs.lemmas.Bool.{cases_eq, cases_lt, cases_Bool, ne_eqb, true≢false}
use Rattle.std.proofs.lemmas.List.{take-append-le, take_all}
use Rattle.group_tree.specs.Bounds.{most_groups}
use Rattle.group_tree.specs.Groups.{has_group, in_subtree, with_group, without_group}
use Rattle.group_tree.proofs.CallerLemmas.{has_group-with, has_group-limited, has_group-flagged, has_group-without, in_subtree-above, root_there}
use Rattle.group_tree.proofs.GroupLemmas.{AreGroups-initial}
use Rattle.step_rules.specs.declared.step.Step.{Step}
use Rattle.step_rules.specs.declared.step.Action.{Action}
use Rattle.step_rules.specs.declared.step.Action.TheVariants.{Lock, Grant, SetMax, SetFlag, Make, Remove}
use Rattle.step_rules.specs.declared.step.Answer.{Answer}
use Rattle.step_rules.specs.declared.step.Answer.TheVariants.{Illegal, Done, Granted, Number}
use Rattle.step_rules.specs.{Zone, at_boot, no_part, stock_in_subtree, usage_of, IsAnswer, Allows, Run, after, state_of, pushed, UsageMoves}
use Rattle.step_rules.specs.{OnlyGrantsRaiseUsage, IsThereSince, IsPeak, peak_follows, PeaksAreKept}
use Rattle.step_rules.specs.State.{State}
use Rattle.step_rules.proofs.Sums.{none_if, sum_none}
use Rattle.step_rules.proofs.Runs.{allowed, state_more}
use Rattle.step_rules.proofs.Keeping.{homed_run}
use Rattle.step_rules.proofs.Moving.{same_least, usage_step, usage_absent, moves_illegal, gone_itself}

pub only_grants_raise_usage : OnlyGrantsRaiseUsage
only_grants_raise_usage zone run legal seat action answer ok =
    let s = state_of zone run in
    let both = homed_run zone run legal in
    elim (allowed s seat action answer ok) [
      | inl illegal ↦ subst (UsageMoves s seat action) (sym illegal) (moves_illegal s seat action)
      | inr made ↦ usage_step s seat action answer both.0 both.1 made.legal made.answered made.counted
    ]

-- what a step means for the peak of a group that is there after it
data PeakMoves (s t : State) (m peak later : ℕ) : Type 0 where
  Begins : has_group s.groups m ≡ false → later ≡ 0 → PeakMoves s t m peak later
  Goes : has_group s.groups m ≡ true → (later ≡ peak) ⊎ (later ≡ usage_of t m) → peak ≤ later → usage_of t m ≤ later → PeakMoves s t m peak later

abbrev KnownPeak : State → ℕ → ℕ → Type 0
KnownPeak s m peak = has_group s.groups m ≡ true → usage_of s m ≤ peak

stays : (s t : State) (m peak : ℕ) → has_group s.groups m ≡ true → KnownPeak s m peak → usage_of t m ≤ usage_of s m → PeakMoves s t m peak peak
stays s t m peak there known falls = let a = known there in Goes there (inl refl) (omega arith) (omega arith)

raised : (s t : State) (m n peak : ℕ) (c : Bool) → has_group s.groups m ≡ true → KnownPeak s m peak →
    usage_of t m ≡ cond c (usage_of s m + n) (usage_of s m) → PeakMoves s t m peak (cond c (max peak (usage_of t m)) peak)
raised s t m n peak false there known e = stays s t m peak there known (omega arith)
raised s t m n peak true there known e = elim (cases_lt peak (usage_of t m)) [
  | inl more ↦ Goes there (inr (omega arith)) (omega arith) (omega arith)
  | inr less ↦ Goes there (inl (omega arith)) (omega arith) (omega arith)
]

made_moves : (s t : State) (path : List ℕ) (n m peak : ℕ) → has_group s.groups n ≡ false → has_group (with_group s.groups n path) m ≡ true →
    KnownPeak s m peak → usage_of t m ≤ usage_of s m → PeakMoves s t m peak (cond (m == n) 0 peak)
made_moves s t path n m peak free there known falls =
    elim (cases_eq m n) [
      | inl e ↦ rw (eq-eqb m n e) (Begins (ap (has_group s.groups) e ∙ free) refl)
      | inr ne ↦ rw (ne_eqb m n ne) (stays s t m peak (sym (has_group-with s.groups n m path ne) ∙ there) known falls)
    ]

peak_unmoved : (s : State) (seat : ℕ) (action : Action) (m peak : ℕ) → has_group (after s seat action Illegal).groups m ≡ true → KnownPeak s m peak →
    PeakMoves s (after s seat action Illegal) m peak (peak_follows (after s seat action Illegal) action Illegal m peak)
peak_unmoved s seat Lock m peak there known = stays s s m peak there known (same_least (usage_of s m))
peak_unmoved s seat action m peak there known = stays s s m peak there known (same_least (usage_of s m))

peak_made : (s : State) (seat : ℕ) (action : Action) (answer : Answer) (m peak : ℕ) → IsAnswer s seat action answer → UsageMoves s seat action answer →
    has_group (after s seat action answer).groups m ≡ true → KnownPeak s m peak →
    PeakMoves s (after s seat action answer) m peak (peak_follows (after s seat action answer) action answer m peak)
peak_made s seat action Illegal m peak ok moves there known = peak_unmoved s seat action m peak there known
peak_made s seat (Grant g n) Granted m peak ok moves there known =
    raised s (after s seat (Grant g n) Granted) m n peak (in_subtree s.groups m g) there known (moves m)
peak_made s seat (SetMax g limit) Done m peak ok moves there known =
    stays s (after s seat (SetMax g limit) Done) m peak (sym (has_group-limited s.groups g m limit) ∙ there) known (moves m)
peak_made s seat (SetFlag g flag) Done m peak ok moves there known =
    stays s (after s seat (SetFlag g flag) Done) m peak (sym (has_group-flagged s.groups g m flag) ∙ there) known (moves m)
peak_made s seat (Make path) (Number n) m peak ok moves there known =
    made_moves s (after s seat (Make path) (Number n)) path n m peak ok.free there known (moves m)
peak_made s seat (Remove g) Done m peak ok moves there known =
    stays s (after s seat (Remove g) Done) m peak
    (sym (has_group-without s.groups g m (λ e. true≢false (sym there ∙ ap (has_group (without_group s.groups g)) e ∙ gone_itself s.groups g)))
    ∙ there) known (moves m)
peak_made s seat Lock answer m peak ok moves there known = stays s _ m peak there known (moves m)
peak_made s seat action answer m peak ok moves there known = stays s _ m peak there known (moves m)

-- ---- the beginnings of a run with one more pair
module _ (zone : Zone) (run : Run) (step : Step) (answer : Answer) where
  abbrev more : Run
  more = pushed run step answer

  longer : length more ≡ length run + 1
  longer = length-append run ((step, answer) ∷ [])

  earlier : (k : ℕ) → k ≤ length run → state_of zone (take k more) ≡ state_of zone (take k run)
  earlier k below = ap (state_of zone) (take-append-le k run ((step, answer) ∷ []) below)

  latest : (k : ℕ) → k ≡ length run + 1 → state_of zone (take k more) ≡ state_of zone more
  latest k e = ap (state_of zone) (take_all k more (let a = longer in omega arith))

  -- a group that is there now has been there for longer
  there_on : (m k : ℕ) → k ≤ length run → IsThereSince zone run m k → has_group (state_of zone more).groups m ≡ true → IsThereSince zone more m k
  there_on m k low since there j from to = elim (cases_lt (length run) j) [
    | inl past ↦ ap (λ (t : State). has_group t.groups m) (latest j (let a = longer in omega arith)) ∙ there
    | inr below ↦ ap (λ (t : State). has_group t.groups m) (earlier j below) ∙ since j from below
  ]

  there_now : (m k : ℕ) → k ≡ length run + 1 → has_group (state_of zone more).groups m ≡ true → IsThereSince zone more m k
  there_now m k e there j from to = ap (λ (t : State). has_group t.groups m) (latest j (let a = longer in omega arith)) ∙ there

  there_before : (m k : ℕ) → k ≤ length run → IsThereSince zone more m k → IsThereSince zone run m k
  there_before m k low since j from to = sym (ap (λ (t : State). has_group t.groups m) (earlier j to)) ∙ since j from (let a = longer in omega arith)

  whole : (t : State) → t ≡ state_of zone run → (m : ℕ) → has_group (state_of zone (take (length run) run)).groups m ≡ has_group t.groups m
  whole t e m = ap (λ (r : Run). has_group (state_of zone r).groups m) (take_all (length run) run (omega arith))
      ∙ sym (ap (λ (x : State). has_group x.groups m) e)

  usage_known : (m peak : ℕ) → IsPeak zone run m peak → has_group (state_of zone run).groups m ≡ true → usage_of (state_of zone run) m ≤ peak
  usage_known m peak is there =
      let all : take (length run) run ≡ run = take_all (length run) run (omega arith) in
      subst (λ (r : Run). usage_of (state_of zone r) m ≤ peak) all
      (is.greatest (length run) (omega arith) (λ j from to. let e : j ≡ length run =
      omega arith in ap (λ (r : Run). has_group (state_of zone r).groups m) (take_all j run (omega arith)) ∙ there))

  peak_now : (m peak later : ℕ) → has_group (state_of zone more).groups m ≡ true → (has_group (state_of zone run).groups m ≡ true → IsPeak zone run m peak) →
      (has_group (state_of zone run).groups m ≡ false → usage_of (state_of zone more) m ≡ 0) →
      PeakMoves (state_of zone run) (state_of zone more) m peak later → IsPeak zone more m later
  peak_now m peak later there known fresh (Begins absent none) = record {
    at = length run + 1;
    at_low = let a = longer in omega arith;
    at_there = there_now m (length run + 1) refl there;
    reached = ap (λ (t : State). usage_of t m) (latest (length run + 1) refl) ∙ fresh absent ∙ sym none;
    greatest = λ k low since. elim (cases_lt (length run) k) [
      | inl past ↦
          let a : usage_of (state_of zone (take k more)) m ≡ usage_of (state_of zone more) m =
          ap (λ (t : State). usage_of t m) (latest k (let b = longer in omega arith)) in
          let z = fresh absent in
          omega arith
      | inr below ↦ absurd (true≢false (sym (there_before m k below since (length run) below (omega arith)) ∙ whole (state_of zone run) refl m ∙ absent))
    ];
  }
  peak_now m peak later there known fresh (Goes before which up covers) =
      let is = known before in
      let greatest : (k : ℕ) → k ≤ length more → IsThereSince zone more m k → usage_of (state_of zone (take k more)) m ≤ later =
      λ k low since. elim (cases_lt (length run) k) [
        | inl past ↦ (let a : usage_of (state_of zone (take k more)) m ≡ usage_of (state_of zone more) m =
            ap (λ (t : State). usage_of t m) (latest k (let b = longer in omega arith)) in omega arith)
        | inr below ↦
            let a : usage_of (state_of zone (take k more)) m ≡ usage_of (state_of zone (take k run)) m = ap (λ (t : State). usage_of t m) (earlier k below) in
            let b = is.greatest k below (there_before m k below since) in
            omega arith
      ] in
      elim which [
        | inl same ↦ record {
          at = is.at;
          at_low = let a = longer in let b = is.at_low in omega arith;
          at_there = there_on m is.at is.at_low is.at_there there;
          reached = ap (λ (t : State). usage_of t m) (earlier is.at is.at_low) ∙ is.reached ∙ sym same;
          greatest = greatest;
        }
        | inr now ↦ record {
          at = length run + 1;
          at_low = let a = longer in omega arith;
          at_there = there_now m (length run + 1) refl there;
          reached = ap (λ (t : State). usage_of t m) (latest (length run + 1) refl) ∙ sym now;
          greatest = greatest;
        }
      ]

peak_moves : (s : State) (seat : ℕ) (action : Action) (answer : Answer) (m peak : ℕ) → UsageMoves s seat action answer → Allows s seat action answer →
    has_group (after s seat action answer).groups m ≡ true → KnownPeak s m peak →
    PeakMoves s (after s seat action answer) m peak (peak_follows (after s seat action answer) action answer m peak)
peak_moves s seat action answer m peak moves ok there known =
    elim (allowed s seat action answer ok) [
      | inl illegal ↦
          subst (λ (a : Answer). PeakMoves s (after s seat action a) m peak (peak_follows (after s seat action a) action a m peak)) (sym illegal)
          (peak_unmoved s seat action m peak (subst (λ (a : Answer). has_group (after s seat action a).groups m ≡ true) illegal there) known)
      | inr made ↦ peak_made s seat action answer m peak made.answered moves there known
    ]

-- a grant is to a group that is there, so a group that a step makes has no more than it had before
absent_falls : (s : State) (seat : ℕ) (action : Action) (answer : Answer) (m : ℕ) → UsageMoves s seat action answer → has_group s.groups m ≡ false →
    usage_of (after s seat action answer) m ≡ 0
absent_falls s seat (Grant g n) Granted m moves absent =
    let a = usage_absent s m absent in
    let b : in_subtree s.groups m g ≡ false = elim (cases_Bool (in_subtree s.groups m g)) [
      | inl is ↦ absurd (true≢false (sym (in_subtree-above s.groups m g is) ∙ absent))
      | inr none ↦ none
    ] in
    moves m ∙ ap (λ c. cond c (usage_of s m + n) (usage_of s m)) b ∙ a
absent_falls s seat Lock answer m moves absent = let a = usage_absent s m absent in let b = moves m in omega arith
absent_falls s seat action answer m moves absent = let a = usage_absent s m absent in let b = moves m in omega arith

peak_boot : (zone : Zone) → IsPeak zone [] 0 0
peak_boot zone = record {
  at = 0;
  at_low = omega arith;
  at_there = λ j from to. ap (λ (r : Run). has_group (state_of zone r).groups 0) (nothing j) ∙ root_is;
  reached = usage_boot;
  greatest = λ k low since. (let a : usage_of (state_of zone (take k [])) 0 ≡ 0 = ap (λ (r : Run). usage_of (state_of zone r) 0) (nothing k)
      ∙ usage_boot in omega arith);
}
  where
    nothing : (k : ℕ) → ◌≡◌ {A = Run} (take k []) []
    nothing k = take_all k [] (omega arith)

    root_is : has_group (at_boot zone).groups 0 ≡ true
    root_is = root_there (at_boot zone).groups (AreGroups-initial (min zone.groups most_groups - 1) (omega arith))

    usage_boot : usage_of (at_boot zone) 0 ≡ 0
    usage_boot =
        let a = sum_none zone.frames (λ f. 0) (λ f below. refl) in
        let b = sum_none (zone.cpus + 1) (λ p. stock_in_subtree (at_boot zone).groups 0 no_part) (λ p below. refl) in
        let c = sum_none most_groups (λ h. cond (in_subtree (at_boot zone).groups 0 h) 0 0) (λ h below. none_if (in_subtree (at_boot zone).groups 0 h) 0 refl) in
        omega arith

pub peaks_are_kept : PeaksAreKept
peaks_are_kept = record {
  one = λ zone run g peak other a b.
      let below = b.greatest a.at a.at_low a.at_there in
      let above = a.greatest b.at b.at_low b.at_there in
      let c = a.reached in
      let d = b.reached in
      omega arith;
  boot = peak_boot;
  step = λ zone run step answer legal ok m peak there known.
      let s = state_of zone run in
      let e : state_of zone (pushed run step answer) ≡ after s step.seat step.action answer = state_more zone run step answer in
      let moves = only_grants_raise_usage zone run legal step.seat step.action answer ok in
      let there_after : has_group (after s step.seat step.action answer).groups m ≡ true = sym (ap (λ (t : State). has_group t.groups m) e) ∙ there in
      let change = peak_moves s step.seat step.action answer m peak moves ok there_after (λ was. usage_known zone run step answer m peak (known was) was) in
      peak_now zone run step answer m peak _ there known (λ absent. ap (λ (t : State). usage_of t m) e
      ∙ absent_falls s step.seat step.action answer m moves absent)
      (subst (λ (t : State). PeakMoves s t m peak (peak_follows t step.action answer m peak)) (sym e) change);
}
