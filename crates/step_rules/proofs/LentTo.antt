-- Who a frame is lent to is one of the CPUs. Serves `frames_are_lent_to_cpus`, `frames_pass_in_visits`,
-- `beginnings_are_legal`.
use Rattle.std.proofs.Common.{◌≡◌, ℕ, ◌^◌, ◌==◌, Bool, true, false, Some, None, refl, sym, ◌∙◌, ap, subst, inl, inr, cond}
use Rattle.std.proofs.lemmas.Bool.{or_right, or_cases}
use Rattle.std.proofs.lemmas.Option.{same_Some}
use Rattle.zone_blocks.specs.declared.block.Block.{Block}
use Rattle.step_rules.specs.declared.phase.Stage.{Stage}
use Rattle.step_rules.specs.declared.phase.Stage.TheVariants.{Bare, Live, AwaitsReturn}
use Rattle.step_rules.specs.declared.phase.Phase.{Phase}
use Rattle.step_rules.specs.declared.phase.Phase.TheVariants.{InZone, Lent, Head, Tail}
use Rattle.step_rules.specs.declared.step.Step.{Step}
use Rattle.step_rules.specs.declared.step.Action.{Action}
use Rattle.step_rules.specs.declared.step.Action.TheVariants.{Lock, Put, Freeze, Unfreeze, PassOut, TakeIn, PassBack, Collect, Consume, Credit, PlaceBlock, Return}
use Rattle.step_rules.specs.declared.step.Answer.{Answer}
use Rattle.step_rules.specs.declared.step.Answer.TheVariants.{Illegal, Done, Last, Took, Stocked, Placed}
use Rattle.step_rules.specs.{at_stage, stage_after_last, passed_back, collected, unit_of, passes_out, passes_back, Zone, at_boot, with_at, is_cpu}
use Rattle.step_rules.specs.{is_held_by, visits, Allows, IsMade, after, state_of, placed_phase, with_block, unit_size, without_unit, lent_to}
use Rattle.step_rules.specs.{FramesAreLentToCpus, FramesPassInVisits, BeginningsAreLegal, KeepsInvariant, IsHomed}
use Rattle.step_rules.specs.State.{State}
use Rattle.step_rules.proofs.LegalTests.{credit_tests, pass_out_tests, take_in_tests}
use Rattle.step_rules.proofs.Basics.{at_each}
use Rattle.step_rules.proofs.PhaseLemmas.{none_some}
use Rattle.step_rules.proofs.Placing.{within_cases, in_block, off_block, in_unit, off_unit}
use Rattle.step_rules.proofs.Keeping.{homes_allowed, homes_boot}
use Rattle.step_rules.proofs.Runs.{after_illegal, allowed, kept_along, sound_boot, sound_run, legal_from}
use Rattle.step_rules.proofs.LocalLaws.{no_illegal}
use Rattle.step_rules.proofs.Placed.{zone_kept}
use Rattle.step_rules.proofs.Freeing.{zone_of_run}

-- no CPU has it
never : (x : Phase) → lent_to x ≡ None → (p : ℕ) → lent_to x ≡ Some p → ⊥
never x none p e = none_some p (sym none ∙ e)

staged : (stage : Stage) (x : Phase) → lent_to (at_stage stage x) ≡ lent_to x
staged stage (Head u old) = refl
staged stage InZone = refl
staged stage (Lent p way) = refl
staged stage (Tail g) = refl

sent : (x : Phase) → lent_to (passed_back x) ≡ lent_to x
sent (Head u old) = refl
sent InZone = refl
sent (Lent p way) = refl
sent (Tail g) = refl

got : (x : Phase) → lent_to (collected x) ≡ None
got (Head u old) = refl
got InZone = refl
got (Lent p way) = refl
got (Tail g) = refl

placed : (g : ℕ) (b : Block) (f : ℕ) → lent_to (placed_phase g b f) ≡ None
placed g b f = by_head (f == b.at)
  where
    by_head : (t : Bool) → lent_to (cond t (Head (record { group = g; order = b.order }) Bare) (Tail g)) ≡ None
    by_head true = refl
    by_head false = refl

-- each frame is lent to a CPU, if it is lent
abbrev AreLent : Zone → (ℕ → Phase) → Type 0
AreLent zone phases = (f p : ℕ) → lent_to (phases f) ≡ Some p → is_cpu zone p ≡ true

lent_at : (zone : Zone) (phases : ℕ → Phase) (g : ℕ) (y : Phase) → AreLent zone phases → ((p : ℕ) → lent_to y ≡ Some p → is_cpu zone p ≡ true) →
    AreLent zone (with_at phases g y)
lent_at zone phases g y lent here f = at_each phases g y (λ m z. (p : ℕ) → lent_to z ≡ Some p → is_cpu zone p ≡ true) here (λ m ne. lent m) f

lent_same : (zone : Zone) (phases : ℕ → Phase) (g : ℕ) (y : Phase) → AreLent zone phases → lent_to y ≡ lent_to (phases g) → AreLent zone (with_at phases g y)
lent_same zone phases g y lent same = lent_at zone phases g y lent (λ p e. lent g p (sym same ∙ e))

lent_none : (zone : Zone) (phases : ℕ → Phase) (g : ℕ) (y : Phase) → AreLent zone phases → lent_to y ≡ None → AreLent zone (with_at phases g y)
lent_none zone phases g y lent none = lent_at zone phases g y lent (λ p e. absurd (never y none p e))

lent_made : (s : State) (seat : ℕ) (action : Action) (answer : Answer) → IsHomed s → AreLent s.zone s.phases → IsMade s seat action answer →
    AreLent s.zone (after s seat action answer).phases
lent_made s seat action Illegal homed lent made = absurd (no_illegal s seat action made.answered)
lent_made s seat (Put g) Last homed lent made = lent_same s.zone s.phases g _ lent (staged (stage_after_last seat) (s.phases g))
lent_made s seat (Freeze g n) Done homed lent made = lent_same s.zone s.phases g _ lent (staged AwaitsReturn (s.phases g))
lent_made s seat (Unfreeze g n) Done homed lent made = lent_same s.zone s.phases g _ lent (staged Live (s.phases g))
lent_made s seat (PassOut g p) Done homed lent made =
    let legal = made.legal in
    let visit : visits p s.hold ≡ true = (pass_out_tests s seat g p legal).2 in
    let cpu : is_cpu s.zone p ≡ true = homed.holder p (or_right (is_held_by p s.hold) (visits p s.hold) visit) in
    lent_at s.zone s.phases g _ lent (λ q e. subst (λ (k : ℕ). is_cpu s.zone k ≡ true) (same_Some p q e) cpu)
lent_made s seat (TakeIn g) Done homed lent made =
    let legal = made.legal in
    let cpu : is_cpu s.zone seat ≡ true = (take_in_tests s seat g legal).0 in
    lent_at s.zone s.phases g _ lent (λ q e. subst (λ (k : ℕ). is_cpu s.zone k ≡ true) (same_Some seat q e) cpu)
lent_made s seat (PassBack g) Done homed lent made = lent_same s.zone s.phases g _ lent (sent (s.phases g))
lent_made s seat (Collect g p) Done homed lent made = lent_none s.zone s.phases g _ lent (got (s.phases g))
lent_made s seat (Consume g) Took homed lent made = lent_none s.zone s.phases _ _ lent refl
lent_made s seat (Credit g) Stocked homed lent made =
    let legal = made.legal in
    let cpu : is_cpu s.zone seat ≡ true = (credit_tests s seat g legal).0 in
    lent_at s.zone s.phases g _ lent (λ q e. subst (λ (k : ℕ). is_cpu s.zone k ≡ true) (same_Some seat q e) cpu)
lent_made s seat (PlaceBlock g k) (Placed b) homed lent made = λ f p e. elim (within_cases b.at (2 ^ b.order) f) [
  | inl within ↦ absurd (never (with_block s.phases g b f) (ap lent_to (in_block s.phases g b f within.0) ∙ placed g b f) p e)
  | inr without ↦ lent f p (sym (ap lent_to (off_block s.phases g b f without.0)) ∙ e)
]
lent_made s seat (Return g) Done homed lent made = λ f p e. elim (within_cases g (unit_size (unit_of (s.phases g))) f) [
  | inl within ↦ absurd (never (without_unit s.phases g f) (ap lent_to (in_unit s.phases g f within.0)) p e)
  | inr without ↦ lent f p (sym (ap lent_to (off_unit s.phases g f without.0)) ∙ e)
]
lent_made s seat Lock answer homed lent made = lent
lent_made s seat action answer homed lent made = lent

-- what each allowed step keeps of the state
abbrev IsLentWell : State → Type 0
IsLentWell s = IsHomed s × AreLent s.zone s.phases

lent_allowed : (s : State) (seat : ℕ) (action : Action) (answer : Answer) → KeepsInvariant s → IsLentWell s → Allows s seat action answer →
    IsLentWell (after s seat action answer)
lent_allowed s seat action answer sound both ok =
    elim (allowed s seat action answer ok) [
      | inl illegal ↦ subst IsLentWell (sym (ap (after s seat action) illegal ∙ after_illegal s seat action)) both
      | inr made ↦ (
        homes_allowed s seat action answer sound both.0 ok,
        subst (λ (z : Zone). AreLent z (after s seat action answer).phases) (sym (zone_kept s seat action answer)) (lent_made s seat action answer both.0 both.1 made),
      )
    ]

pub frames_are_lent : FramesAreLentToCpus
frames_are_lent zone run legal f p e =
    let start : IsLentWell (at_boot zone) = (homes_boot zone, λ n q d. absurd (none_some q d)) in
    let kept = kept_along (λ (x : ℕ) (d : Step × Answer). x) (λ s x. IsLentWell s)
    (λ s x d sound both ok. lent_allowed s d.0.seat d.0.action d.1 sound both ok) (at_boot zone) 0 run (sound_boot zone) start legal in
    sym (ap (λ (z : Zone). is_cpu z p) (zone_of_run zone run)) ∙ kept.1.1 f p e

pub frames_pass : FramesPassInVisits
frames_pass zone run legal f p e =
    let fits = (sound_run zone run legal).frames f in
    elim (or_cases (passes_out p ((state_of zone run).phases f)) (passes_back p ((state_of zone run).phases f)) e) [
      | inl out ↦ fits.out p out
      | inr back ↦ fits.returning p back
    ]

pub beginnings_are_legal : BeginningsAreLegal
beginnings_are_legal zone run legal k = legal_from zone run k legal
