-- While the lock is free nothing is pending, and nothing passes.
use Rattle.std.proofs.Common.{◌≡◌, ℕ, ◌==◌, true, false, refl, sym, ◌∙◌, ap, subst, arith, inl, inr, if◌then◌else◌, eq-eqb}
use Rattle.std.specs.Prelude.{not}
use Rattle.std.proofs.lemmas.Bool.{false≢true, true≢false, and_parts}
use Rattle.group_tree.specs.{most_groups}
use Rattle.group_tree.specs.Groups.{in_subtree}
use Rattle.step_rules.specs.declared.phase.Hold.{Hold}
use Rattle.step_rules.specs.declared.phase.Way.TheVariants.{PassingOut, PassingBack}
use Rattle.step_rules.specs.declared.phase.Stage.TheVariants.{FreshPassing, BackPassing}
use Rattle.step_rules.specs.declared.phase.Phase.{Phase}
use Rattle.step_rules.specs.declared.phase.Phase.TheVariants.{Lent, Head}
use Rattle.step_rules.specs.declared.step.FramePlace.TheVariants as place
use Rattle.step_rules.specs.declared.step.Step.{Step}
use Rattle.step_rules.specs.declared.step.Action.{Action}
use Rattle.step_rules.specs.declared.step.Action.TheVariants.{Lock, Unlock, OpenVisit, ShutVisit, Fill, DrainStock, Grant, Ungrant, PlaceBlock}
use Rattle.step_rules.specs.declared.step.Answer.{Answer}
use Rattle.step_rules.specs.declared.step.Answer.TheVariants.{Illegal, Done, Pages, Granted, Placed}
use Rattle.step_rules.specs.Phases.{ListFrame}
use Rattle.step_rules.specs.{has_as, passes_out, passes_back, is_passing, Zone, at_boot, one_if, is_unheld, may_zone_act, pages_pending, is_legal}
use Rattle.step_rules.specs.{Allows, no_page_pends, is_same_frame_place, place_in, after, state_of, IsAllPlaced, NothingPendsWhileTheLockIsFree}
use Rattle.step_rules.specs.{KeepsInvariant, IsHomed}
use Rattle.step_rules.specs.State.{State, all_to}
use Rattle.step_rules.proofs.LegalTests.{drain_stock_tests, fill_tests, grant_tests, place_block_tests, ungrant_tests}
use Rattle.step_rules.proofs.Sums.{none_if, sum_none, all_each}
use Rattle.step_rules.proofs.PhaseLemmas.{unheld_visit}
use Rattle.step_rules.proofs.Keeping.{homed_run, settled_all}
use Rattle.step_rules.proofs.Runs.{after_illegal, allowed, kept_along, sound_boot}

not_free : (hold : Hold) (seat : ℕ) → may_zone_act hold seat ≡ true → is_unheld hold ≡ true → ⊥
not_free hold seat may free = true≢false (sym (and_parts (seat == 0) (not (is_unheld hold)) may).1 ∙ ap not free)

-- nothing is pending where the lock is free
abbrev IsQuit : State → Type 0
IsQuit s = is_unheld s.hold ≡ true → no_page_pends s ≡ true

quit_made : (s : State) (seat : ℕ) (action : Action) (answer : Answer) → IsQuit s → is_legal s seat action ≡ true → IsQuit (after s seat action answer)
quit_made s seat action Illegal quit legal = subst IsQuit (sym (after_illegal s seat action)) quit
quit_made s seat Lock Done quit legal = λ free. absurd (false≢true free)
quit_made s seat Unlock Done quit legal = λ free. grind arith
quit_made s seat (OpenVisit p) Done quit legal = λ free. absurd (false≢true free)
quit_made s seat (ShutVisit p) Done quit legal = λ free. absurd (false≢true free)
quit_made s seat (Fill p g n) Done quit legal = λ free. absurd (let may : may_zone_act s.hold seat ≡ true = (fill_tests s seat p g n legal).0 in not_free s.hold seat may free)
quit_made s seat (DrainStock p) (Pages n) quit legal = λ free. absurd (let may : may_zone_act s.hold seat ≡ true = (drain_stock_tests s seat p legal).0 in not_free s.hold seat may free)
quit_made s seat (Grant g n) Granted quit legal = λ free. absurd (let may : may_zone_act s.hold seat ≡ true = (grant_tests s seat g n legal).0 in not_free s.hold seat may free)
quit_made s seat (Ungrant g n) Done quit legal = λ free. absurd (let may : may_zone_act s.hold seat ≡ true = (ungrant_tests s seat g n legal).0 in not_free s.hold seat may free)
quit_made s seat (PlaceBlock g k) (Placed b) quit legal =
    λ free. absurd (let may : may_zone_act s.hold seat ≡ true = (place_block_tests s seat g k legal).0 in not_free s.hold seat may free)
quit_made s seat Lock answer quit legal = quit
quit_made s seat action answer quit legal = quit

quit_allowed : (s : State) (seat : ℕ) (action : Action) (answer : Answer) → IsQuit s → Allows s seat action answer → IsQuit (after s seat action answer)
quit_allowed s seat action answer quit ok =
    elim (allowed s seat action answer ok) [
      | inl illegal ↦ subst IsQuit (sym (ap (after s seat action) illegal ∙ after_illegal s seat action)) quit
      | inr made ↦ quit_made s seat action answer quit made.legal
    ]

quit_boot : (zone : Zone) → IsQuit (at_boot zone)
unfolding all_to
quit_boot zone free = refl

-- a frame that passes for nobody and from nobody does not pass
still_phase : (x : Phase) → ((q : ℕ) → passes_out q x ≡ true → ⊥) → ((q : ℕ) → passes_back q x ≡ true → ⊥) → is_passing x ≡ false
still_phase (Lent q PassingOut) out back = absurd (out q (eq-eqb q q refl))
still_phase (Lent q PassingBack) out back = absurd (back q (eq-eqb q q refl))
still_phase (Head u (FreshPassing q)) out back = absurd (back q (eq-eqb q q refl))
still_phase (Head u (BackPassing q)) out back = absurd (back q (eq-eqb q q refl))
still_phase x out back = refl

-- a frame that does not pass is on the list that it is lent to
on_its_list : (p : ℕ) (x : Phase) → is_passing x ≡ false → has_as ListFrame p x ≡ is_same_frame_place (place_in x) (place.LentTo p)
on_its_list p (Lent q PassingOut) still = absurd (true≢false still)
on_its_list p (Lent q PassingBack) still = absurd (true≢false still)
on_its_list p (Head u stage) still = refl
on_its_list p x still = refl

all_placed : (s : State) → KeepsInvariant s → IsHomed s → is_unheld s.hold ≡ true → no_page_pends s ≡ true → IsAllPlaced s
all_placed s sound homed free settled =
    let rests : (f : ℕ) → is_passing (s.phases f) ≡ false = λ f.
    still_phase (s.phases f) (λ q out. unheld_visit s.hold q free ((sound.frames f).out q out))
    (λ q back. unheld_visit s.hold q free ((sound.frames f).returning q back)) in
    let none : (g : ℕ) → s.pending g ≡ 0 = settled_all s homed settled in
    record {
      pending = none;
      usage = λ g. let a : pages_pending s.groups s.pending g ≡ 0 =
          sum_none most_groups (λ h. if in_subtree s.groups g h then s.pending h else 0)
          (λ h below. none_if (in_subtree s.groups g h) (s.pending h) (none h)) in omega arith;
      still = all_each s.zone.frames (λ f. not (is_passing (s.phases f))) (λ f below. ap not (rests f));
      listed = λ f p. sound.lists p ListFrame f ∙ ap one_if (on_its_list p (s.phases f) (rests f));
    }

pub nothing_pends : NothingPendsWhileTheLockIsFree
nothing_pends zone run legal free =
    let kept = kept_along (λ (x : ℕ) (e : Step × Answer). x) (λ s x. IsQuit s)
    (λ s x e sound quit ok. quit_allowed s e.0.seat e.0.action e.1 quit ok) (at_boot zone) 0 run (sound_boot zone) (quit_boot zone) legal in
    all_placed (state_of zone run) kept.0 (homed_run zone run legal).1 free (kept.1 free)
