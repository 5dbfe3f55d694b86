-- A back frame is a CPU's.
use Rattle.std.proofs.Common.{◌≡◌, ℕ, ◌^◌, ◌≤◌, ◌==◌, Bool, true, false, cond, Option, Some, None, refl, ap, sym, ◌∙◌, subst, arith, inl, inr, eq-eqb}
use Rattle.std.proofs.lemmas.Bool.{leb-true, ne_eqb}
use mathlib.Core.Logic.{dite}
use native.Mathlib.Decide.{ℕ_discrete}
use Rattle.zone_blocks.specs.declared.block.Block.{Block}
use Rattle.step_rules.specs.declared.phase.Stage.{Stage}
use Rattle.step_rules.specs.declared.phase.Stage.TheVariants.{AwaitsReturn, BackAt, Bare, Live}
use Rattle.step_rules.specs.declared.phase.Way.TheVariants.{OnList, PassingOut}
use Rattle.step_rules.specs.declared.phase.Phase.{Phase}
use Rattle.step_rules.specs.declared.phase.Phase.TheVariants.{InZone, Lent, Head, Tail}
use Rattle.step_rules.specs.declared.step.Step.{Step}
use Rattle.step_rules.specs.declared.step.Action.{Action}
use Rattle.step_rules.specs.declared.step.Action.TheVariants.{Collect, Consume, Credit, Freeze, Lock, PassBack, PassOut, PlaceBlock, Put, Return, TakeIn, Unfreeze}
use Rattle.step_rules.specs.declared.step.Answer.{Answer}
use Rattle.step_rules.specs.declared.step.Answer.TheVariants.{Done, Illegal, Last, Placed, Stocked, Took}
use Rattle.step_rules.specs.{at_stage, collected, is_live_phase, passed_back, stage_after_last, stage_collected, stage_passed_back, unit_of, Zone}
use Rattle.step_rules.specs.{at_boot, front_of, with_at, Allows, IsMade, Run, after, consumed, placed_phase, state_of, unit_size, IsLegalRun}
use Rattle.step_rules.specs.{KeepsInvariant}
use Rattle.step_rules.specs.State.{State}
use Rattle.step_rules.proofs.Basics.{at_each}
use Rattle.step_rules.proofs.Freeing.{zone_of_run}
use Rattle.step_rules.proofs.LegalTests.{put_tests}
use Rattle.step_rules.proofs.LocalLaws.{no_illegal}
use Rattle.step_rules.proofs.PhaseLemmas.{live_is, none_some}
use Rattle.step_rules.proofs.Placed.{zone_kept}
use Rattle.step_rules.proofs.Placing.{in_block, in_unit, off_block, off_unit, within_cases}
use Rattle.step_rules.proofs.Referring.{live_from_one, seat_there}
use Rattle.step_rules.proofs.Runs.{after_illegal, allowed, kept_along, next, sound_boot}

-- the CPU whose back frame the unit's head is
abbrev pub stage_back_of : Stage → Option ℕ
stage_back_of (BackAt cpu) = Some cpu
stage_back_of stage = None

-- the CPU whose back frame it is
abbrev pub back_of : Phase → Option ℕ
back_of (Head unit stage) = stage_back_of stage
back_of x = None

same_some : (a b : ℕ) → Some a ≡ Some b → a ≡ b
same_some a b e = cc

staged_none : (k : Stage) (x : Phase) → stage_back_of k ≡ None → back_of (at_stage k x) ≡ None
staged_none k (Head u old) e = e
staged_none k InZone e = refl
staged_none k (Lent c way) e = refl
staged_none k (Tail g) e = refl

sent_none : (x : Phase) → back_of (passed_back x) ≡ None
sent_none (Lent c way) = refl
sent_none InZone = refl
sent_none (Tail g) = refl
sent_none (Head u stage) = by stage
  where
    by : (k : Stage) → stage_back_of (stage_passed_back k) ≡ None
    by (BackAt c) = refl
    by k = refl

got_same : (x : Phase) (c : ℕ) → back_of (collected x) ≡ Some c → back_of x ≡ Some c
got_same (Lent d way) c e = absurd (none_some c e)
got_same InZone c e = e
got_same (Tail g) c e = e
got_same (Head u stage) c e = by stage e
  where
    by : (k : Stage) → stage_back_of (stage_collected k) ≡ Some c → stage_back_of k ≡ Some c
    by (BackAt d) h = h
    by k h = absurd (none_some c h)

placed_none : (g : ℕ) (b : Block) (x : ℕ) → back_of (placed_phase g b x) ≡ None
placed_none g b x = by (x == b.at)
  where
    by : (t : Bool) → back_of (cond t (Head (record { group = g; order = b.order }) Bare) (Tail g)) ≡ None
    by true = refl
    by false = refl

-- each back frame is of one of so many CPUs
abbrev AreBacks : ℕ → (ℕ → Phase) → Type 0
AreBacks cpus phases = (f c : ℕ) → back_of (phases f) ≡ Some c → (1 ≤ c) × (c ≤ cpus)

backs_at : (cpus : ℕ) (phases : ℕ → Phase) (g : ℕ) (y : Phase) → AreBacks cpus phases → ((c : ℕ) → back_of y ≡ Some c → (1 ≤ c) × (c ≤ cpus)) → AreBacks cpus (with_at phases g y)
backs_at cpus phases g y backs here f = at_each phases g y (λ m z. (c : ℕ) → back_of z ≡ Some c → (1 ≤ c) × (c ≤ cpus)) here (λ m ne. backs m) f

backs_none : (cpus : ℕ) (phases : ℕ → Phase) (g : ℕ) (y : Phase) → AreBacks cpus phases → back_of y ≡ None → AreBacks cpus (with_at phases g y)
backs_none cpus phases g y backs none = backs_at cpus phases g y backs (λ c e. absurd (none_some c (sym none ∙ e)))

last_backs : (cpus seat : ℕ) (x : Phase) → is_live_phase x ≡ true → seat ≤ cpus → (c : ℕ) → back_of (at_stage (stage_after_last seat) x) ≡ Some c → (1 ≤ c) × (c ≤ cpus)
last_backs cpus seat x live high c e =
    let h : stage_back_of (cond (seat == 0) AwaitsReturn (BackAt seat)) ≡ Some c = sym (ap (λ y. back_of (at_stage (stage_after_last seat) y)) (live_is x live).1) ∙ e in
    dite (ℕ_discrete seat 0)
    (λ zeroth. absurd (none_some c (sym (ap (λ b. stage_back_of (cond b AwaitsReturn (BackAt seat))) (eq-eqb seat 0 zeroth)) ∙ h)))
    (λ ne. let same = same_some seat c (sym (ap (λ b. stage_back_of (cond b AwaitsReturn (BackAt seat))) (ne_eqb seat 0 ne)) ∙ h) in (omega (arith, same, ne), omega (arith, same, high)))

made_backs : (s : State) (seat : ℕ) (action : Action) (answer : Answer) → KeepsInvariant s → AreBacks s.zone.cpus s.phases → IsMade s seat action answer
    → AreBacks s.zone.cpus (after s seat action answer).phases
made_backs s seat action Illegal sound backs made = absurd (no_illegal s seat action made.answered)
made_backs s seat (Put g) Last sound backs made =
    let one = leb-true 1 (s.references seat g) (put_tests s seat g made.legal).2 in
    backs_at s.zone.cpus s.phases g (at_stage (stage_after_last seat) (s.phases g)) backs
    (last_backs s.zone.cpus seat (s.phases g) (live_from_one s seat g sound one) (seat_there s seat g sound one))
made_backs s seat (Freeze g n) Done sound backs made = backs_none s.zone.cpus s.phases g (at_stage AwaitsReturn (s.phases g)) backs (staged_none AwaitsReturn (s.phases g) refl)
made_backs s seat (Unfreeze g n) Done sound backs made = backs_none s.zone.cpus s.phases g (at_stage Live (s.phases g)) backs (staged_none Live (s.phases g) refl)
made_backs s seat (PassOut g to) Done sound backs made = backs_none s.zone.cpus s.phases g (Lent to PassingOut) backs refl
made_backs s seat (TakeIn g) Done sound backs made = backs_none s.zone.cpus s.phases g (Lent seat OnList) backs refl
made_backs s seat (PassBack g) Done sound backs made = backs_none s.zone.cpus s.phases g (passed_back (s.phases g)) backs (sent_none (s.phases g))
made_backs s seat (Collect g from) Done sound backs made = backs_at s.zone.cpus s.phases g (collected (s.phases g)) backs (λ c e. backs g c (got_same (s.phases g) c e))
made_backs s seat (Consume g) Took sound backs made = backs_none s.zone.cpus s.phases (front_of (s.parts seat).list) (consumed seat g) backs refl
made_backs s seat (Credit g) Stocked sound backs made = backs_none s.zone.cpus s.phases g (Lent seat OnList) backs refl
made_backs s seat (PlaceBlock g k) (Placed b) sound backs made = λ f c e. elim (within_cases b.at (2 ^ b.order) f) [
  | inl within ↦ absurd (none_some c (sym (placed_none g b f) ∙ sym (ap back_of (in_block s.phases g b f within.0)) ∙ e))
  | inr outside ↦ backs f c (sym (ap back_of (off_block s.phases g b f outside.0)) ∙ e)
]
made_backs s seat (Return g) Done sound backs made = λ f c e. elim (within_cases g (unit_size (unit_of (s.phases g))) f) [
  | inl within ↦ absurd (none_some c (sym (ap back_of (in_unit s.phases g f within.0)) ∙ e))
  | inr outside ↦ backs f c (sym (ap back_of (off_unit s.phases g f outside.0)) ∙ e)
]
made_backs s seat Lock answer sound backs made = backs
made_backs s seat action answer sound backs made = backs

abbrev HasBacks : State → Type 0
HasBacks s = AreBacks s.zone.cpus s.phases

step_backs : (s : State) (e : Step × Answer) → KeepsInvariant s → HasBacks s → Allows s e.0.seat e.0.action e.1 → HasBacks (next s e)
step_backs s e sound backs ok = elim (allowed s e.0.seat e.0.action e.1 ok) [
  | inl illegal ↦ subst HasBacks (sym (ap (after s e.0.seat e.0.action) illegal ∙ after_illegal s e.0.seat e.0.action)) backs
  | inr made ↦ subst (λ (z : Zone). AreBacks z.cpus (next s e).phases) (sym (zone_kept s e.0.seat e.0.action e.1)) (made_backs s e.0.seat e.0.action e.1 sound backs made)
]

-- after a legal run each back frame is of a CPU of the zone
pub backs_are_cpus : (zone : Zone) (run : Run) → IsLegalRun zone run → (f c : ℕ) → back_of ((state_of zone run).phases f) ≡ Some c → (1 ≤ c) × (c ≤ zone.cpus)
backs_are_cpus zone run legal f c e =
    let kept = (kept_along (λ (x : ℕ) d. x) (λ s x. HasBacks s) (λ s x d sound backs ok. step_backs s d sound backs ok) (at_boot zone) 0 run (sound_boot zone) (λ g d h. absurd (none_some d h)) legal).1 in
    subst (λ (z : Zone). (1 ≤ c) × (c ≤ z.cpus)) (zone_of_run zone run) (kept f c e)
