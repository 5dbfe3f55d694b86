-- Every legal run keeps the promise. Serves `the_promise_is_kept`.
use Rattle.std.proofs.Common.{◌≡◌, ℕ, ◌+◌, ◌<◌, ◌≤◌, true, false, Option, Some, None, List, [], ◌∷◌, ◌++◌, take, length, is_some, refl, sym, ◌∙◌, ap, subst, arith}
use Rattle.std.proofs.Common.{inl, inr, if◌then◌else◌, zero, suc}
use Rattle.std.specs.Prelude.{IfSome, Bool, nat_le, not}
use Rattle.std.specs.List.{slice_get}
use Rattle.std.proofs.lemmas.Bool.{cases_Bool, cases_eq, leb-true, false≢true}
use Rattle.std.proofs.lemmas.Nat.{pow_pos}
use Rattle.std.proofs.lemmas.Option.{same_Some}
use Rattle.std.proofs.lemmas.List.FromFn.{get_or-map-range_with_len, length-map-range_with_len}
use Rattle.zone_blocks.specs.Areas.{IsFree}
use Rattle.zone_blocks.proofs.Unique.{in_one_block, in_a_block_is_free}
use Rattle.group_tree.specs.declared.group.Group.{Group}
use Rattle.group_tree.specs.{has_group, in_subtree, limit_of, fits_limit, is_in_subtree}
use Rattle.group_tree.proofs.CallerLemmas.{in_subtree-above}
use Rattle.step_rules.specs.declared.phase.ChargedUnit.{ChargedUnit}
use Rattle.step_rules.specs.declared.phase.Way.TheVariants.{OnList}
use Rattle.step_rules.specs.declared.phase.Stage.{Stage}
use Rattle.step_rules.specs.declared.phase.Phase.{Phase}
use Rattle.step_rules.specs.declared.phase.Phase.TheVariants.{InZone, Lent, Head, Tail}
use Rattle.step_rules.specs.declared.step.FramePlace.{FramePlace}
use Rattle.step_rules.specs.declared.step.FramePlace.TheVariants.{Free, LentTo, Charged}
use Rattle.step_rules.specs.declared.step.Action.{Action}
use Rattle.step_rules.specs.declared.step.Action.TheVariants.{Get, Put, Freeze, Unfreeze, Consume, Credit, Grant, PlaceBlock, Return}
use Rattle.step_rules.specs.declared.step.Answer.{Answer}
use Rattle.step_rules.specs.declared.step.Answer.TheVariants.{Done, Held, Last, Took, Stocked, Granted, Placed}
use Rattle.step_rules.specs.Phases.{FreshFrame}
use Rattle.step_rules.specs.{is_free, is_live_phase, has_as, unit_of, keeper_of, is_head_in_hand, is_returnable, Zone, PartStock, one_if, front_of}
use Rattle.step_rules.specs.{is_cpu, free_in, live_references, times, usage_of, frames_kept, stock_in_subtree, pages_prepaid, is_legal}
use Rattle.step_rules.specs.{Allows, Run, state_of, IsLegalRun, limit_given, was_killed, InHand, units_after_run, is_same_frame_place, place_in}
use Rattle.step_rules.specs.{phase_awaits_return, is_killed_return_phase, IsAllPlaced, ReturnsOnce, charged_in_subtree, StockIsKept, lent_to, Shown}
use Rattle.step_rules.specs.{IsShown, Has, HasOnce, IsInUnit, IsInOnePlace, IsPrepaid, kept_in_subtree, prepaid_in_subtree, KeepsLimits}
use Rattle.step_rules.specs.{HasNoReference, IsUnused, ReturnsNoFrameTwice, ThePromiseIsKept, EachStepIsPromised, CountsReferences}
use Rattle.step_rules.specs.State.{State, sum_to}
use Rattle.step_rules.proofs.LegalTests.{consume_tests, credit_tests, grant_tests, return_tests, unfreeze_tests}
use Rattle.step_rules.proofs.Lists.{one_if_true}
use Rattle.step_rules.proofs.Sums.{none_if}
use Rattle.step_rules.proofs.PhaseLemmas.{free_is, live_is, listed_is, fresh_is, held_live, none_some, returning_is, Returns, AsEnded, AsKilled}
use Rattle.step_rules.proofs.PhaseLemmas.{in_hand, InHand as Hand, WasCollected, WasBare, WasEnded}
use Rattle.step_rules.proofs.Referring.{live_from_references}
use Rattle.step_rules.proofs.Passing.{front_listed}
use Rattle.step_rules.proofs.Placing.{free_in_at, block_free}
use Rattle.step_rules.proofs.Placed.{same_place_is, same_place_itself}
use Rattle.step_rules.proofs.Runs.{legal_from, sound_run}
use Rattle.step_rules.proofs.Freeing.{zone_of_run}
use Rattle.step_rules.proofs.Settling.{nothing_pends}
use Rattle.step_rules.proofs.Returning.{every_frame_returns_once}
use Rattle.step_rules.proofs.Telling.{groups_follow_the_run, parts_follow_the_run}
use Rattle.step_rules.proofs.Keeping.{keepers_are_there}
use Rattle.step_rules.proofs.Counting.{references_are_counted}
use Rattle.step_rules.proofs.Living.{live_are_referenced}
use Rattle.step_rules.proofs.LentTo.{frames_are_lent}
use Rattle.step_rules.proofs.Booking.{parts_are_booked}
use Rattle.step_rules.proofs.Uniting.{units_follow_the_run}
use Rattle.step_rules.proofs.Heads.{heads_run}
use Rattle.step_rules.proofs.Charging.{groups_in_run, charged_is_usage}
use Rattle.step_rules.proofs.Referenced.{references_kept}

-- ---- units
unit_keeper : (x : Phase) (g k : ℕ) → unit_of x ≡ Some (record { group = g; order = k }) → keeper_of x ≡ Some g
unit_keeper (Head u stage) g k e = ap (λ (o : Option ChargedUnit). group_in o) e
  where
    group_in : Option ChargedUnit → Option ℕ
    group_in None = None
    group_in (Some v) = Some v.group
unit_keeper InZone g k e = absurd (none_some _ e)
unit_keeper (Lent p way) g k e = absurd (none_some _ e)
unit_keeper (Tail h) g k e = absurd (none_some _ e)

-- what holds after a legal run, of frames by the run
module _ (zone : Zone) (run : Run) (legal : IsLegalRun zone run) where
  in_unit_kept : (f g : ℕ) → IsInUnit run g f → keeper_of ((state_of zone run).phases f) ≡ Some g
  in_unit_kept f g in_it =
      let s = state_of zone run in
      let sound = sound_run zone run legal in
      let unit : unit_of (s.phases in_it.0) ≡ Some (record { group = g; order = in_it.1 }) = (units_follow_the_run zone run legal in_it.0).unit ∙ in_it.2 in
      let from = in_it.3.from in
      elim (cases_eq f in_it.0) [
        | inl e ↦ ap (λ (m : ℕ). keeper_of (s.phases m)) e ∙ unit_keeper (s.phases in_it.0) g in_it.1 unit
        | inr ne ↦ ap keeper_of (sound.units in_it.0 (record { group = g; order = in_it.1 }) unit f (omega arith) in_it.3.before)
      ]

  kept_in_unit : (f g : ℕ) (x : Phase) → (state_of zone run).phases f ≡ x → keeper_of x ≡ Some g → IsInUnit run g f
  kept_in_unit f g InZone was kept = absurd (none_some g kept)
  kept_in_unit f g (Lent p way) was kept = absurd (none_some g kept)
  kept_in_unit f g (Head u stage) was kept =
      let some = pow_pos u.order in
      let same : Some u ≡ Some (record { group = g; order = u.order }) =
      ap (λ (h : ℕ). Some (record { group = h; order = u.order })) (same_Some u.group g kept) in
      (f, u.order, sym (units_follow_the_run zone run legal f).unit ∙ ap unit_of was ∙ same, record { from = omega arith; before = omega arith })
  kept_in_unit f g (Tail h) was kept =
      let head = heads_run zone run legal f h was in
      let low = head.4 in
      let same : Some head.1 ≡ Some (record { group = g; order = head.1.order }) =
      ap (λ (k : ℕ). Some (record { group = k; order = head.1.order })) (head.3 ∙ same_Some h g kept) in
      (head.0, head.1.order, sym (units_follow_the_run zone run legal head.0).unit ∙ head.2 ∙ same, record { from = omega arith; before = head.5 })

  no_reference : (f : ℕ) → is_live_phase ((state_of zone run).phases f) ≡ false → HasNoReference run f
  no_reference f dead = λ seat.
      let told = references_are_counted zone run legal seat f in
      let none = (live_are_referenced zone run legal f).none dead seat in
      omega arith

  -- a frame that no group keeps is in no use
  unused : (f : ℕ) (x : Phase) → (state_of zone run).phases f ≡ x → keeper_of x ≡ None → is_live_phase x ≡ false → phase_awaits_return x ≡ false → IsUnused run f
  unused f x was kept dead shut = (
    λ g in_it. none_some g (sym (ap keeper_of was ∙ kept) ∙ in_unit_kept f g in_it),
    no_reference f (ap is_live_phase was ∙ dead),
    (every_frame_returns_once zone run legal f).awaited ∙ ap phase_awaits_return was ∙ shut,
  )

  unit_told : (f : ℕ) (u : ChargedUnit) {stage : Stage} → (state_of zone run).phases f ≡ Head u stage → is_some ((units_after_run run).unit f) ≡ true
  unit_told f u was = sym (ap is_some (units_follow_the_run zone run legal f).unit) ∙ ap (λ y. is_some (unit_of y)) was

  same_hand : (p : ℕ) → is_cpu zone p ≡ true → ((units_after_run run).hands p).list ≡ ((state_of zone run).parts p).list
  same_hand p cpu = ap (λ (h : InHand). h.list) ((units_follow_the_run zone run legal 0).hands p) ∙ sym (parts_follow_the_run zone run legal p cpu).list

  is_of_zone : (p : ℕ) → is_cpu (state_of zone run).zone p ≡ true → is_cpu zone p ≡ true
  is_of_zone p cpu = ap (λ (z : Zone). is_cpu z p) (sym (zone_of_run zone run)) ∙ cpu

-- ---- one place
keeper_place : (x : Phase) (g : ℕ) → keeper_of x ≡ Some g → place_in x ≡ Charged g
keeper_place InZone g e = absurd (let no : ◌≡◌ {A = Option ℕ} None (Some g) → ⊥ = λ z. cc in no e)
keeper_place (Lent p way) g e = absurd (let no : ◌≡◌ {A = Option ℕ} None (Some g) → ⊥ = λ z. cc in no e)
keeper_place (Head u stage) g e = ap Charged (some_same u.group g e)
  where
    some_same : (a b : ℕ) → Some a ≡ Some b → a ≡ b
    some_same a b z = cc
keeper_place (Tail h) g e = ap Charged (some_same h g e)
  where
    some_same : (a b : ℕ) → Some a ≡ Some b → a ≡ b
    some_same a b z = cc

-- the first value of a sum by itself
sum_front : (n : ℕ) (h : ℕ → ℕ) → sum_to (suc n) h ≡ h 0 + sum_to n (λ i. h (i + 1))
unfolding sum_to
sum_front zero h = omega arith
sum_front (suc n) h =
    let a = sum_front n h in
    let next : n + 1 ≡ suc n = omega arith in
    let same : h (n + 1) ≡ h (suc n) = ap h next in
    omega arith

module _ (zone : Zone) (run : Run) (legal : IsLegalRun zone run) (shown : Shown) (is : IsShown (state_of zone run) shown)
    (placed : IsAllPlaced (state_of zone run)) where
  abbrev s : State
  s = state_of zone run

  times_shown : (f p : ℕ) → times f (shown.lists p) ≡ one_if (is_same_frame_place (place_in (s.phases f)) (LentTo p))
  times_shown f p = ap (times f) (is.lists p) ∙ placed.listed f p

  is_free_at : (f : ℕ) → f < s.zone.frames → is_free (s.phases f) ≡ true → IsFree (free_in s.zone s.phases) f
  is_free_at f below e = get_or-map-range_with_len (λ x. is_free (s.phases x)) 0 s.zone.frames f f false below (omega arith) ∙ e

  there : (f g : ℕ) → keeper_of (s.phases f) ≡ Some g → has_group shown.groups g ≡ true
  there f g kept = ap (λ (gs : List Group). has_group gs g) is.groups ∙ (keepers_are_there zone run legal).frames f g kept

  has_once : (f : ℕ) → f < s.zone.frames → (x : Phase) → s.phases f ≡ x → HasOnce zone shown f (place_in x)
  has_once f below InZone e = in_one_block (free_in s.zone s.phases) shown.areas is.areas f (is_free_at f below (ap is_free e))
  has_once f below (Lent p way) e = (
    frames_are_lent zone run legal f p (ap lent_to e),
    times_shown f p ∙ ap (λ y. one_if (is_same_frame_place (place_in y) (LentTo p))) e ∙ ap one_if (same_place_itself (LentTo p)),
  )
  has_once f below (Head u stage) e = (there f u.group (ap keeper_of e), is.keeper f ∙ ap keeper_of e)
  has_once f below (Tail g) e = (there f g (ap keeper_of e), is.keeper f ∙ ap keeper_of e)

  has_alone : (f : ℕ) → f < s.zone.frames → (p : FramePlace) → Has shown f p → p ≡ place_in (s.phases f)
  has_alone f below Free has =
      sym (ap place_in (free_is (s.phases f) (free_in_at s.zone s.phases f below
      (in_a_block_is_free (free_in s.zone s.phases) shown.areas is.areas has.0 has.1 f has.2))))
  has_alone f below (LentTo p) has =
      sym (same_place_is (place_in (s.phases f)) (LentTo p) (one_if_true _ (let e = times_shown f p in omega (arith, e, has))))
  has_alone f below (Charged g) has = sym (keeper_place (s.phases f) g (sym (is.keeper f) ∙ has))

  in_one_place : (f : ℕ) → f < s.zone.frames → IsInOnePlace zone run shown f
  in_one_place f below = record {
    place = place_in (s.phases f);
    once = has_once f below (s.phases f) refl;
    only = has_alone f below;
    kept = λ g. (
      λ kept. kept_in_unit zone run legal f g (s.phases f) refl (sym (is.keeper f) ∙ kept),
      λ in_it. is.keeper f ∙ in_unit_kept zone run legal f g in_it,
    );
  }

  -- a frame beyond the zone is seen nowhere
  nowhere : (f : ℕ) → s.zone.frames ≤ f → (p : FramePlace) → Has shown f p → ⊥
  nowhere f past p has = by_place p has
    where
      free : s.phases f ≡ InZone
      free = free_is (s.phases f) (((sound_run zone run legal).frames f).inside past)

      by_place : (q : FramePlace) → Has shown f q → ⊥
      by_place Free seen =
          let inside = (is.areas.each seen.0 seen.1).is_free.block.inside in
          let size = length-map-range_with_len (λ x. is_free (s.phases x)) 0 s.zone.frames in
          let high = seen.2.before in
          omega arith
      by_place (LentTo q) seen =
          let e = times_shown f q in
          let none : one_if (is_same_frame_place (place_in (s.phases f)) (LentTo q)) ≡ 0 = ap (λ y. one_if (is_same_frame_place (place_in y) (LentTo q))) free in
          omega (arith, e, seen, none)
      by_place (Charged g) seen = none_some g (sym (is.keeper f ∙ ap keeper_of free) ∙ seen)

  -- ---- usage
  is_prepaid : (p : ℕ) → 1 ≤ (shown.stocks p).pages → IsPrepaid zone shown p
  is_prepaid p some = (cpu, by_group (s.parts p).stock.group refl)
    where
      kept : StockIsKept s p
      kept = (keepers_are_there zone run legal).parts p

      pages : 1 ≤ (s.parts p).stock.pages
      pages = let same : (shown.stocks p).pages ≡ (s.parts p).stock.pages = ap (λ (x : PartStock). x.pages) (is.stocks p) in omega arith

      cpu : is_cpu zone p ≡ true
      cpu = elim (cases_Bool (is_cpu s.zone p)) [
        | inl yes_cpu ↦ is_of_zone zone run legal p yes_cpu
        | inr off ↦ absurd (let none = kept.no_cpu off in let more = pages in omega arith)
      ]

      by_group : (o : Option ℕ) → (s.parts p).stock.group ≡ o → (g : ℕ) × ((shown.stocks p).group ≡ Some g) × (has_group shown.groups g ≡ true)
      by_group None e = absurd (let none = kept.no_group e in let more = pages in omega arith)
      by_group (Some g) e =
          (g, ap (λ (x : PartStock). x.group) (is.stocks p) ∙ e, ap (λ (gs : List Group). has_group gs g) is.groups ∙ kept.stock g e pages)

  kept_shown : (g : ℕ) → frames_kept s.groups s.phases s.zone.frames g ≡ kept_in_subtree shown s.zone.frames g
  kept_shown g = λ i. sum_to s.zone.frames (λ f. one_if (is_in_subtree (sym is.groups i) g (sym (is.keeper f) i)))

  -- nobody's stock, that of number 0, has no page
  prepaid_shown : (g : ℕ) → pages_prepaid s.groups s.parts s.zone.cpus g ≡ prepaid_in_subtree shown s.zone.cpus g
  prepaid_shown g =
      let first = sum_front s.zone.cpus (λ p. stock_in_subtree s.groups g (s.parts p)) in
      let none : stock_in_subtree s.groups g (s.parts 0) ≡ 0 =
      none_if (is_in_subtree s.groups g (s.parts 0).stock.group) (s.parts 0).stock.pages (((keepers_are_there zone run legal).parts 0).no_cpu refl) in
      let size : s.zone.cpus + 1 ≡ suc s.zone.cpus = omega arith in
      let all : pages_prepaid s.groups s.parts s.zone.cpus g ≡ sum_to (suc s.zone.cpus) (λ p. stock_in_subtree s.groups g (s.parts p)) =
      ap (λ n. sum_to n (λ p. stock_in_subtree s.groups g (s.parts p))) size in
      let rest : pages_prepaid s.groups s.parts s.zone.cpus g ≡ sum_to s.zone.cpus (λ p. stock_in_subtree s.groups g (s.parts (p + 1))) = omega arith in
      rest ∙ (λ i. sum_to s.zone.cpus (λ p.
      if is_in_subtree (sym is.groups i) g (sym (is.stocks (p + 1)) i).group then (sym (is.stocks (p + 1)) i).pages else 0))

  current_shown : (g : ℕ) → has_group shown.groups g ≡ true →
      (shown.current g ≡ kept_in_subtree shown s.zone.frames g + prepaid_in_subtree shown s.zone.cpus g) × (shown.current g ≡ charged_in_subtree zone run g)
  current_shown g here =
      let told = is.current g (ap (λ (gs : List Group). has_group gs g) (sym is.groups) ∙ here) in
      (told ∙ placed.usage g ∙ (λ i. kept_shown g i + prepaid_shown g i), told ∙ sym (charged_is_usage zone run legal g))

-- ---- each step of a run
if_each : {X : Type 0} {P Q : X → Type 0} (o : Option X) → ((x : X) → o ≡ Some x → P x → Q x) → IfSome o P → IfSome o Q
if_each None each h = tt
if_each (Some x) each h = each x refl h

taken_next : {X : Type 0} (xs : List X) (k : ℕ) (x : X) → slice_get xs k ≡ Some x → take (suc k) xs ≡ take k xs ++ x ∷ []
taken_next [] k x e = absurd (none_some x e)
taken_next (y ∷ ys) zero x e = ap (λ z. z ∷ []) (same e)
  where
    same : {X : Type 0} {a b : X} → Some a ≡ Some b → a ≡ b
    same z = cc
taken_next (y ∷ ys) (suc k) x e = ap (λ zs. y ∷ zs) (taken_next ys k x e)

limits_kept : (zone : Zone) (run : Run) → IsLegalRun zone run → (seat : ℕ) (action : Action) (answer : Answer) →
    Allows (state_of zone run) seat action answer → KeepsLimits zone run action answer
limits_kept zone run legal seat (Grant g n) Granted ok = (
  alive,
  λ m below.
      let s = state_of zone run in
      let on_path : in_subtree s.groups m g ≡ true = ap (λ (gs : List Group). in_subtree gs m g) (groups_in_run zone run legal) ∙ below in
      let limit : limit_given run m ≡ limit_of s.groups m = sym ((groups_follow_the_run zone run legal m).limit (in_subtree-above s.groups m g on_path)) in
      let usage = charged_is_usage zone run legal m in
      let room : fits_limit (limit_of s.groups m) (usage_of s m + n) ≡ true = ok.answered m on_path in
      (λ i. fits_limit (limit i) (usage i + n)) ∙ room,
)
  where
    alive : was_killed run g ≡ false
    alive =
        let not_killed : not ((state_of zone run).killed g) ≡ true = (grant_tests (state_of zone run) seat g n ok.legal).2 in
        sym (groups_follow_the_run zone run legal g).killed ∙ not_true ((state_of zone run).killed g) not_killed
      where
        not_true : (b : Bool) → not b ≡ true → b ≡ false
        not_true true e = absurd (false≢true e)
        not_true false e = refl
limits_kept zone run legal seat action answer ok = tt

returns_kept : (zone : Zone) (run : Run) → IsLegalRun zone run → (seat : ℕ) (action : Action) (answer : Answer) →
    Allows (state_of zone run) seat action answer → ReturnsNoFrameTwice run seat action answer
returns_kept zone run legal seat (Get f) Held ok =
    let s = state_of zone run in
    let live = live_is (s.phases f) (live_from_references s f (sound_run zone run legal) (held_live (live_references s f) ok.counted)) in
    (every_frame_returns_once zone run legal f).awaited ∙ ap phase_awaits_return live.1
returns_kept zone run legal seat (Put f) Last ok = let back = every_frame_returns_once zone run legal f in back.awaited ∙ back.none_awaited_at_put seat ok
returns_kept zone run legal seat (Freeze f n) Done ok = let back = every_frame_returns_once zone run legal f in back.awaited ∙ back.none_awaited_at_freeze seat n ok
returns_kept zone run legal seat (Unfreeze f n) Done ok =
    let hand : is_head_in_hand ((state_of zone run).phases f) ≡ true = (unfreeze_tests (state_of zone run) seat f n ok.legal).2 in
    by_hand (in_hand ((state_of zone run).phases f) hand)
  where
    by_hand : Hand ((state_of zone run).phases f) → ReturnsNoFrameTwice run seat (Unfreeze f n) Done
    by_hand (WasCollected u was) = (unit_told zone run legal f u was, no_reference zone run legal f (ap is_live_phase was))
    by_hand (WasBare u was) = (unit_told zone run legal f u was, no_reference zone run legal f (ap is_live_phase was))
    by_hand (WasEnded u was) = (unit_told zone run legal f u was, no_reference zone run legal f (ap is_live_phase was))
returns_kept zone run legal seat (Return f) Done ok =
    let s = state_of zone run in
    let may : is_returnable s.killed (s.phases f) ≡ true = (return_tests (state_of zone run) seat f ok.legal).2 in
    came_back (every_frame_returns_once zone run legal f) (ok.legal) (returning_is s.killed (s.phases f) may)
  where
    came_back : ReturnsOnce zone run f → is_legal (state_of zone run) seat (Return f) ≡ true →
        Returns (state_of zone run).killed ((state_of zone run).phases f) → ReturnsNoFrameTwice run seat (Return f) Done
    came_back back may (AsEnded u was) = (
      inl (back.awaited ∙ ap phase_awaits_return was),
      unit_told zone run legal f u was,
      no_reference zone run legal f (ap is_live_phase was),
    )
    came_back back may (AsKilled u was killed) = (
      inr (back.killed_return seat may ∙ ap (is_killed_return_phase (state_of zone run).killed) was ∙ killed),
      unit_told zone run legal f u was,
      no_reference zone run legal f (ap is_live_phase was),
    )
returns_kept zone run legal seat (Credit f) Stocked ok =
    let s = state_of zone run in
    let cpu : is_cpu s.zone seat ≡ true = (credit_tests (state_of zone run) seat f ok.legal).0 in
    let fresh : has_as FreshFrame seat (s.phases f) ≡ true = (credit_tests (state_of zone run) seat f ok.legal).2 in
    let is = fresh_is seat (s.phases f) fresh in (
      ap (λ (h : InHand). times f h.fresh) ((units_follow_the_run zone run legal f).hands seat)
          ∙ ap (times f) (sym (parts_follow_the_run zone run legal seat (is_of_zone zone run legal seat cpu)).fresh)
          ∙ (parts_are_booked zone run legal seat).fresh f ∙ ap one_if fresh,
      no_reference zone run legal f (ap is_live_phase is.1),
    )
returns_kept zone run legal seat (Consume g) Took ok =
    let s = state_of zone run in
    let cpu : is_cpu s.zone seat ≡ true = (consume_tests (state_of zone run) seat g ok.legal).0 in
    let some_test : nat_le 1 (length (s.parts seat).list) ≡ true = (consume_tests (state_of zone run) seat g ok.legal).1 in
    let some = leb-true 1 (length (s.parts seat).list) some_test in
    let listed = listed_is seat (s.phases (front_of (s.parts seat).list)) (front_listed s seat (sound_run zone run legal) some) in
    let same = same_hand zone run legal seat (is_of_zone zone run legal seat cpu) in (
      subst (λ (xs : List ℕ). 1 ≤ length xs) (sym same) some,
      subst (λ (xs : List ℕ). IsUnused run (front_of xs)) (sym same) (unused zone run legal (front_of (s.parts seat).list) (Lent seat OnList) listed refl refl refl),
    )
returns_kept zone run legal seat (PlaceBlock g k) (Placed b) ok =
    let s = state_of zone run in (
      ok.answered.0,
      λ f covers. unused zone run legal f InZone (free_is (s.phases f) (block_free s.zone s.phases b ok.answered.1 f covers.from covers.before).1) refl refl refl,
    )
returns_kept zone run legal seat action answer ok = tt

pub each_step_is_promised : EachStepIsPromised
each_step_is_promised zone run legal k =
    let before = legal_from zone run k legal in
    let size : k + 1 ≡ suc k = omega arith in
    if_each {P = λ e. Allows (state_of zone (take k run)) e.0.seat e.0.action e.1} (slice_get run k)
    (λ e at ok. (
      limits_kept zone (take k run) before e.0.seat e.0.action e.1 ok,
      returns_kept zone (take k run) before e.0.seat e.0.action e.1 ok,
      subst (λ (next : Run). CountsReferences zone (take k run) next e.0.seat e.0.action e.1) (sym (ap (λ n. take n run) size ∙ taken_next run k e at))
          (references_kept zone (take k run) before e.0.seat e.0.action e.1 ok),
    )) (legal k)

pub the_promise_is_kept : ThePromiseIsKept
the_promise_is_kept zone run shown legal free is =
    let s = state_of zone run in
    let placed = nothing_pends zone run legal free in
    let zone_is : s.zone ≡ zone = zone_of_run zone run in
    let frames : s.zone.frames ≡ zone.frames = ap (λ (z : Zone). z.frames) zone_is in
    record {
      groups = is.groups ∙ groups_in_run zone run legal;
      areas = (free_in s.zone s.phases, length-map-range_with_len (λ f. is_free (s.phases f)) 0 s.zone.frames ∙ frames, is.areas);
      frames = λ f below. in_one_place zone run legal shown is placed f (omega arith);
      beyond = λ f past. nowhere zone run legal shown is placed f (omega arith);
      stocks = is_prepaid zone run legal shown is placed;
      current = λ g here.
          let both = current_shown zone run legal shown is placed g here in
          (both.0 ∙ (λ i. kept_in_subtree shown (zone_is i).frames g + prepaid_in_subtree shown (zone_is i).cpus g), both.1);
      limits = λ k. if_each (slice_get run k) (λ e at kept. kept.0) (each_step_is_promised zone run legal k);
      returns = λ k. if_each (slice_get run k) (λ e at kept. kept.1) (each_step_is_promised zone run legal k);
      references = λ k. if_each (slice_get run k) (λ e at kept. kept.2) (each_step_is_promised zone run legal k);
    }
