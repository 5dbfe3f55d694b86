-- Who a frame is lent to is one of the CPUs, after every legal run. Serves the end of a system.
use Rattle.std.proofs.Common.{◌≡◌, ℕ, ◌≤◌, ◌==◌, Bool, true, false, cond, Option, Some, None, refl, sym, ap, ◌∙◌, subst, inl, inr}
use Rattle.std.proofs.lemmas.Bool.{or_right}
use Rattle.std.proofs.lemmas.Option.{none-some}
use Rattle.step_rules.specs.declared.phase.ChargedUnit.{ChargedUnit}
use Rattle.step_rules.specs.declared.phase.Stage.{Stage}
use Rattle.step_rules.specs.declared.phase.Stage.TheVariants.{FreshAt}
use Rattle.step_rules.specs.declared.phase.Phase.{Phase}
use Rattle.step_rules.specs.declared.phase.Phase.TheVariants.{InZone, Lent, Head, Tail}
use Rattle.step_rules.specs.declared.step.Step.{Step}
use Rattle.step_rules.specs.declared.step.Action.{Action}
use Rattle.step_rules.specs.declared.step.Action.TheVariants.{Lock, Put, Freeze, Unfreeze, PassOut, TakeIn, PassBack, Collect, Consume, Credit, PlaceBlock, Return}
use Rattle.step_rules.specs.declared.step.Answer.{Answer}
use Rattle.step_rules.specs.declared.step.Answer.TheVariants.{Illegal, Done, Last, Placed, Stocked, Took}
use Rattle.step_rules.specs.{IsHomed, PhasePaid, groups_in, is_legal, at_stage, collected, passed_back, stage_after_last}
use Rattle.step_rules.specs.{Zone, at_boot, front_of, is_cpu, is_held_by, visits, with_at, Run, after, consumed, state_of, IsLegalRun}
use Rattle.step_rules.specs.State.{State}
use Rattle.step_rules.proofs.Basics.{at_each}
use Rattle.step_rules.proofs.Freeing.{zone_of_run}
use Rattle.step_rules.proofs.Keeping.{homes_allowed, homes_boot}
use Rattle.step_rules.proofs.LegalTests.{credit_tests, pass_out_tests, take_in_tests}
use Rattle.step_rules.proofs.Runs.{after_illegal, allowed, kept_along, sound_boot, sound_run}
use Rattle.step_rules.proofs.SoundSteps.{cpu_range}
use Rattle.boot_words.specs.{hide_phase, own_past, zone_of_boot, KnownTable}
use Rattle.mem_machine.specs.declared.frame_state.FrameState.{FrameState}
use Rattle.mem_machine.specs.declared.frame_state.FrameState.TheVariants as frame
use Rattle.mem_machine.specs.{frame_state_at, phase_hidden, KnownMachine, IsConsistent}

-- the CPU that the frame is lent to
abbrev lent_to : Phase → Option ℕ
lent_to (Lent q way) = Some q
lent_to (Head unit stage) = None
lent_to InZone = None
lent_to (Tail g) = None

abbrev number : Option ℕ → ℕ
number None = 0
number (Some n) = n

-- each frame that is lent is lent to a CPU
abbrev LendsToCpus : Zone → (ℕ → Phase) → Type 0
LendsToCpus zone phases = (f q : ℕ) → lent_to (phases f) ≡ Some q → is_cpu zone q ≡ true

at_a_stage : (stage : Stage) (x : Phase) → lent_to (at_stage stage x) ≡ lent_to x
at_a_stage stage (Head unit old) = refl
at_a_stage stage InZone = refl
at_a_stage stage (Lent q way) = refl
at_a_stage stage (Tail g) = refl

on_the_way : (x : Phase) → lent_to (passed_back x) ≡ lent_to x
on_the_way (Head unit old) = refl
on_the_way InZone = refl
on_the_way (Lent q way) = refl
on_the_way (Tail g) = refl

back_home : (x : Phase) → lent_to (collected x) ≡ None
back_home (Head unit old) = refl
back_home InZone = refl
back_home (Lent q way) = refl
back_home (Tail g) = refl

module _ (zone : Zone) (phases : ℕ → Phase) (all : LendsToCpus zone phases) where
  -- one frame has another phase
  changed : (f : ℕ) (x : Phase) → ((q : ℕ) → lent_to x ≡ Some q → is_cpu zone q ≡ true) → LendsToCpus zone (with_at phases f x)
  changed f x here = at_each phases f x (λ k y. (q : ℕ) → lent_to y ≡ Some q → is_cpu zone q ≡ true) here (λ k ne. all k)

  changed_same : (f : ℕ) (x : Phase) → lent_to x ≡ lent_to (phases f) → LendsToCpus zone (with_at phases f x)
  changed_same f x same = changed f x (λ q e. all f q (sym same ∙ e))

  changed_none : (f : ℕ) (x : Phase) → lent_to x ≡ None → LendsToCpus zone (with_at phases f x)
  changed_none f x none = changed f x (λ q e. absurd (none-some q (sym none ∙ e)))

  changed_lent : (f p : ℕ) (x : Phase) → lent_to x ≡ Some p → is_cpu zone p ≡ true → LendsToCpus zone (with_at phases f x)
  changed_lent f p x is cpu = changed f x (λ q e. ap (λ (o : Option ℕ). is_cpu zone (number o)) (sym e ∙ is) ∙ cpu)

  -- some frames, of which none is lent then
  some_home : (inside : ℕ → Bool) (x : ℕ → Phase) → ((f : ℕ) → lent_to (x f) ≡ None) → LendsToCpus zone (λ f. cond (inside f) (x f) (phases f))
  some_home inside x none f q e = by (inside f) e
    where
      by : (b : Bool) → lent_to (cond b (x f) (phases f)) ≡ Some q → is_cpu zone q ≡ true
      by true e = absurd (none-some q (sym (none f) ∙ e))
      by false e = all f q e

placed_none : (b : Bool) (u : ChargedUnit) (g : ℕ) (stage : Stage) → lent_to (cond b (Head u stage) (Tail g)) ≡ None
placed_none true u g stage = refl
placed_none false u g stage = refl

lends_step : (s : State) (seat : ℕ) (action : Action) (answer : Answer) → IsHomed s → LendsToCpus s.zone s.phases → is_legal s seat action ≡ true
    → LendsToCpus (after s seat action answer).zone (after s seat action answer).phases
lends_step s seat action Illegal homed all legal = subst (λ (u : State). LendsToCpus u.zone u.phases) (sym (after_illegal s seat action)) all
lends_step s seat (Put f) Last homed all legal = changed_same s.zone s.phases all f (at_stage (stage_after_last seat) (s.phases f)) (at_a_stage (stage_after_last seat) (s.phases f))
lends_step s seat (Freeze f n) Done homed all legal = changed_same s.zone s.phases all f _ (at_a_stage _ (s.phases f))
lends_step s seat (Unfreeze f n) Done homed all legal = changed_same s.zone s.phases all f _ (at_a_stage _ (s.phases f))
lends_step s seat (PassOut f p) Done homed all legal =
    changed_lent s.zone s.phases all f p _ refl (homed.holder p (or_right (is_held_by p s.hold) (visits p s.hold) (pass_out_tests s seat f p legal).2))
lends_step s seat (TakeIn f) Done homed all legal = changed_lent s.zone s.phases all f seat _ refl (take_in_tests s seat f legal).0
lends_step s seat (PassBack f) Done homed all legal = changed_same s.zone s.phases all f (passed_back (s.phases f)) (on_the_way (s.phases f))
lends_step s seat (Collect f p) Done homed all legal = changed_none s.zone s.phases all f (collected (s.phases f)) (back_home (s.phases f))
lends_step s seat (Consume g) Took homed all legal = changed_none s.zone s.phases all (front_of (s.parts seat).list) (consumed seat g) refl
lends_step s seat (Credit f) Stocked homed all legal = changed_lent s.zone s.phases all f seat _ refl (credit_tests s seat f legal).0
lends_step s seat (PlaceBlock g k) (Placed b) homed all legal = some_home s.zone s.phases all _ _ (λ f. placed_none (f == b.at) _ g _)
lends_step s seat (Return f) Done homed all legal = some_home s.zone s.phases all _ (λ x. InZone) (λ x. refl)
lends_step s seat Lock answer homed all legal = all
lends_step s seat action answer homed all legal = all

lends_run : (zone : Zone) (run : Run) → IsLegalRun zone run → LendsToCpus (state_of zone run).zone (state_of zone run).phases
lends_run zone run legal =
    (kept_along (λ (x : ℕ) (e : Step × Answer). x) (λ s x. IsHomed s × LendsToCpus s.zone s.phases)
    (λ s x e sound h ok. (
      homes_allowed s e.0.seat e.0.action e.1 sound h.0 ok,
      elim (allowed s e.0.seat e.0.action e.1 ok) [
        | inl illegal ↦ subst (λ (u : State). LendsToCpus u.zone u.phases) (sym (ap (after s e.0.seat e.0.action) illegal ∙ after_illegal s e.0.seat e.0.action)) h.1
        | inr made ↦ lends_step s e.0.seat e.0.action e.1 h.0 h.1 made.legal
      ],
    ))
    (at_boot zone) 0 run (sound_boot zone) (homes_boot zone, λ f q e. absurd (none-some q e)) legal).1.1

-- a frame that is lent or fresh, by its record
hidden_lent : (cpus : ℕ) (zone : Zone) (groups : ℕ → Option ℕ) (x : Phase) (r : FrameState) (p : ℕ) → zone.cpus ≡ cpus → hide_phase x ≡ phase_hidden r → r ≡ frame.Lent p
    → PhasePaid zone.cpus groups x → ((q : ℕ) → lent_to x ≡ Some q → is_cpu zone q ≡ true) → (1 ≤ p) × (p ≤ cpus)
hidden_lent cpus zone groups x r p sized hidden is paid cpu = by x (ap lent_to (hidden ∙ ap phase_hidden is)) paid cpu
  where
    fits : (q : ℕ) → q ≡ p → (1 ≤ q) × (q ≤ zone.cpus) → (1 ≤ p) × (p ≤ cpus)
    fits q same range = subst (λ (k : ℕ × ℕ). (1 ≤ k.0) × (k.0 ≤ k.1)) (λ i. (same i, sized i)) range

    by : (x : Phase) → lent_to (hide_phase x) ≡ Some p → PhasePaid zone.cpus groups x → ((q : ℕ) → lent_to x ≡ Some q → is_cpu zone q ≡ true) → (1 ≤ p) × (p ≤ cpus)
    by (Lent q way) e paid cpu = fits q (ap number e) (cpu_range zone q (cpu q refl))
    by (Head unit (FreshAt q)) e paid cpu = fits q (ap number e) (paid.low, paid.high)
    by (Head unit stage) e paid cpu = absurd (none-some p e)
    by InZone e paid cpu = absurd (none-some p e)
    by (Tail g) e paid cpu = absurd (none-some p e)

pub lent_to_cpu : (t : KnownTable) (m : KnownMachine) → IsConsistent t m → IsLegalRun (zone_of_boot t) (own_past m.run.past).seen → (f p : ℕ)
    → frame_state_at m.frame_states f ≡ frame.Lent p → (1 ≤ p) × (p ≤ t.cpus)
lent_to_cpu t m ok legal f p is =
    let zone = zone_of_boot t in
    let run = (own_past m.run.past).seen in
    let s = state_of zone run in
    hidden_lent t.cpus s.zone (groups_in s.parts) (s.phases f) (frame_state_at m.frame_states f) p (ap (λ (z : Zone). z.cpus) (zone_of_run zone run)) (ok.shown.phases f) is
    ((sound_run zone run legal).frames f).paid (lends_run zone run legal f)
