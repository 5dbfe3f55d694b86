-- A published frame heads a charged unit. Serves `published_is_kept`.
use Rattle.std.proofs.Common.{◌≡◌, ℕ, ◌==◌, ◌||◌, Bool, true, false, Some, ◌^◌, length, refl, sym, ◌∙◌, ap, arith, inl, inr, cond, if◌then◌else◌, eq-eqb}
use Rattle.std.specs.Prelude.{nat_le}
use Rattle.std.proofs.lemmas.Bool.{cases_eq, ne_eqb, false≢true, true≢false, leb-true, or_left}
use Rattle.step_rules.specs.declared.phase.ChargedUnit.{ChargedUnit}
use Rattle.step_rules.specs.declared.phase.Stage.TheVariants.{FreshAt, FreshPassing, Live, BackAt, BackPassing, AwaitsReturn}
use Rattle.step_rules.specs.declared.phase.Phase.{Phase}
use Rattle.step_rules.specs.declared.phase.Phase.TheVariants.{InZone, Lent, Head, Tail}
use Rattle.step_rules.specs.declared.step.Action.{Action}
use Rattle.step_rules.specs.declared.step.Action.TheVariants.{Lock, Put, Freeze, Unfreeze, PassOut, TakeIn, PassBack, Collect, Consume}
use Rattle.step_rules.specs.declared.step.Action.TheVariants.{Credit, PlaceBlock, Publish, Return}
use Rattle.step_rules.specs.declared.step.Answer.{Answer}
use Rattle.step_rules.specs.declared.step.Answer.TheVariants.{Illegal, Done, Last, Took, Stocked, Placed}
use Rattle.step_rules.specs.Phases.{FreshFrame}
use Rattle.step_rules.specs.{has_as, passes_out, is_free, is_head, is_live_phase, is_returnable, at_stage, stage_after_last, passed_back, collected}
use Rattle.step_rules.specs.{unit_of, with_at, front_of, IsMade, after, state_of, unit_size, without_unit, phase_awaits_return, published_after}
use Rattle.step_rules.specs.{AllPublishedIsKept, KeepsInvariant}
use Rattle.step_rules.specs.State.{State}
use Rattle.step_rules.proofs.LegalTests.{consume_tests, credit_tests, pass_out_tests, publish_tests, return_tests, take_in_tests}
use Rattle.step_rules.proofs.Basics.{at_each}
use Rattle.step_rules.proofs.PhaseLemmas.{Returns, AsEnded, AsKilled, free_is, out_is, listed_is, fresh_is, returning_is}
use Rattle.step_rules.proofs.Referring.{live_from_one}
use Rattle.step_rules.proofs.Passing.{front_listed}
use Rattle.step_rules.proofs.Placing.{within_cases, block_free, off_block, off_unit}
use Rattle.step_rules.proofs.LocalLaws.{no_illegal}
use Rattle.step_rules.proofs.Telling.{told_run}

-- the frame has references, or an end of it is open
abbrev is_used : Phase → Bool
is_used x = is_live_phase x || phase_awaits_return x

used_head : (x : Phase) → is_used x ≡ true → is_head x ≡ true
used_head (Head u stage) e = refl
used_head InZone e = absurd (false≢true e)
used_head (Lent q way) e = absurd (false≢true e)
used_head (Tail g) e = absurd (false≢true e)

used_sent : (x : Phase) → is_used x ≡ true → is_used (passed_back x) ≡ true
used_sent (Head u (BackAt p)) e = refl
used_sent (Head u (FreshAt p)) e = absurd (false≢true e)
used_sent (Head u stage) e = e
used_sent InZone e = e
used_sent (Lent q way) e = e
used_sent (Tail g) e = e

used_got : (x : Phase) → is_used x ≡ true → is_used (collected x) ≡ true
used_got (Head u (BackPassing p)) e = refl
used_got (Head u (FreshPassing p)) e = absurd (false≢true e)
used_got (Head u stage) e = e
used_got InZone e = e
used_got (Lent q way) e = absurd (false≢true e)
used_got (Tail g) e = e

used_woken : (x : Phase) → is_used x ≡ true → is_used (at_stage Live x) ≡ true
used_woken (Head u stage) e = refl
used_woken InZone e = e
used_woken (Lent q way) e = e
used_woken (Tail g) e = e

used_frozen : (x : Phase) → is_used x ≡ true → is_used (at_stage AwaitsReturn x) ≡ true
used_frozen (Head u stage) e = refl
used_frozen InZone e = e
used_frozen (Lent q way) e = e
used_frozen (Tail g) e = e

used_last : (seat : ℕ) (x : Phase) → is_used x ≡ true → is_used (at_stage (stage_after_last seat) x) ≡ true
used_last seat (Head u stage) e = by_seat (seat == 0)
  where
    by_seat : (b : Bool) → is_used (Head u (cond b AwaitsReturn (BackAt seat))) ≡ true
    by_seat true = refl
    by_seat false = refl
used_last seat InZone e = e
used_last seat (Lent q way) e = e
used_last seat (Tail g) e = e

-- no frame in this phase is used
never : (x y : Phase) → x ≡ y → is_used y ≡ false → is_used x ≡ true → ⊥
never x y e none used = true≢false (sym used ∙ ap is_used e ∙ none)

-- one frame's phase changes
used_at : (phases : ℕ → Phase) (g : ℕ) (y : Phase) (f : ℕ) → (is_used (phases g) ≡ true → is_used y ≡ true) → is_used (phases f) ≡ true →
    is_used (with_at phases g y f) ≡ true
used_at phases g y f here used = at_each phases g y (λ m x. is_used (phases m) ≡ true → is_used x ≡ true) here (λ m ne e. e) f used

abbrev IsKept : ℕ → State → Bool → Type 0
IsKept f s x = x ≡ true → is_used (s.phases f) ≡ true

kept_still : (f : ℕ) (x : Bool) (seat : ℕ) (action : Action) → published_after f x action Illegal ≡ x
kept_still f x seat Lock = refl
kept_still f x seat action = refl

returned_used : (s : State) (g f : ℕ) (u : ChargedUnit) → KeepsInvariant s → unit_of (s.phases g) ≡ Some u → (f ≡ g → ⊥) → is_used (s.phases f) ≡ true →
    is_used (without_unit s.phases g f) ≡ true
returned_used s g f u sound is ne used =
    elim (within_cases g (unit_size (unit_of (s.phases g))) f) [
      | inl within ↦
          let size : unit_size (unit_of (s.phases g)) ≡ 2 ^ u.order = ap unit_size is in
          absurd (never (s.phases f) (Tail u.group) (sound.units g u is f (let low = within.1 in omega arith) (let high = within.2 in omega arith)) refl used)
      | inr without ↦ ap is_used (off_unit s.phases g f without.0) ∙ used
    ]

unit_is : (killed : ℕ → Bool) (x : Phase) → Returns killed x → (u : ChargedUnit) × (unit_of x ≡ Some u)
unit_is killed x (AsEnded u was) = (u, ap unit_of was)
unit_is killed x (AsKilled u was dead) = (u, ap unit_of was)

kept_made : (f : ℕ) (s : State) (x : Bool) (seat : ℕ) (action : Action) (answer : Answer) → KeepsInvariant s → IsKept f s x → IsMade s seat action answer →
    IsKept f (after s seat action answer) (published_after f x action answer)
kept_made f s x seat action Illegal sound kept made = absurd (no_illegal s seat action made.answered)
kept_made f s x seat (Put g) Last sound kept made = λ e. used_at s.phases g _ f (used_last seat (s.phases g)) (kept e)
kept_made f s x seat (Freeze g n) Done sound kept made = λ e. used_at s.phases g _ f (used_frozen (s.phases g)) (kept e)
kept_made f s x seat (Unfreeze g n) Done sound kept made = λ e. used_at s.phases g _ f (used_woken (s.phases g)) (kept e)
kept_made f s x seat (PassOut g p) Done sound kept made = λ e.
    let legal = made.legal in
    let free : is_free (s.phases g) ≡ true = (pass_out_tests s seat g p legal).3 in
    used_at s.phases g _ f (λ used. absurd (never (s.phases g) InZone (free_is (s.phases g) free) refl used)) (kept e)
kept_made f s x seat (TakeIn g) Done sound kept made = λ e.
    let legal = made.legal in
    let passes : passes_out seat (s.phases g) ≡ true = (take_in_tests s seat g legal).2 in
    used_at s.phases g _ f (λ used. absurd (never (s.phases g) _ (out_is seat (s.phases g) passes) refl used)) (kept e)
kept_made f s x seat (PassBack g) Done sound kept made = λ e. used_at s.phases g _ f (used_sent (s.phases g)) (kept e)
kept_made f s x seat (Collect g p) Done sound kept made = λ e. used_at s.phases g _ f (used_got (s.phases g)) (kept e)
kept_made f s x seat (Consume g) Took sound kept made = λ e.
    let legal = made.legal in
    let some : nat_le 1 (length (s.parts seat).list) ≡ true = (consume_tests s seat g legal).1 in
    let m = front_of (s.parts seat).list in
    let listed = listed_is seat (s.phases m) (front_listed s seat sound (leb-true 1 (length (s.parts seat).list) some)) in
    used_at s.phases m _ f (λ used. absurd (never (s.phases m) _ listed refl used)) (kept e)
kept_made f s x seat (Credit g) Stocked sound kept made = λ e.
    let legal = made.legal in
    let fresh : has_as FreshFrame seat (s.phases g) ≡ true = (credit_tests s seat g legal).2 in
    used_at s.phases g _ f (λ used. absurd (never (s.phases g) _ (fresh_is seat (s.phases g) fresh).1 refl used)) (kept e)
kept_made f s x seat (PlaceBlock g k) (Placed b) sound kept made = λ e. elim (within_cases b.at (2 ^ b.order) f) [
  | inl within ↦ absurd (never (s.phases f) InZone (free_is (s.phases f) (block_free s.zone s.phases b made.answered.1 f within.1 within.2).1) refl (kept e))
  | inr without ↦ ap is_used (off_block s.phases g b f without.0) ∙ kept e
]
kept_made f s x seat (Publish g) Done sound kept made =
    let legal = made.legal in
    let some : nat_le 1 (s.references 0 g) ≡ true = (publish_tests s seat g legal).3 in
    let live = live_from_one s 0 g sound (leb-true 1 (s.references 0 g) some) in
    elim (cases_eq f g) [
      | inl same ↦ λ e. ap (λ (m : ℕ). is_used (s.phases m)) same ∙ or_left (is_live_phase (s.phases g)) (phase_awaits_return (s.phases g)) live
      | inr ne ↦ λ e. kept (sym (ap (λ c. if c then true else x) (ne_eqb f g ne)) ∙ e)
    ]
kept_made f s x seat (Return g) Done sound kept made =
    let legal = made.legal in
    let may : is_returnable s.killed (s.phases g) ≡ true = (return_tests s seat g legal).2 in
    let unit = unit_is s.killed (s.phases g) (returning_is s.killed (s.phases g) may) in
    elim (cases_eq f g) [
      | inl same ↦ λ e. absurd (false≢true (sym (ap (λ c. if c then false else x) (eq-eqb f g same)) ∙ e))
      | inr ne ↦ λ e. returned_used s g f unit.0 sound unit.1 ne (kept (sym (ap (λ c. if c then false else x) (ne_eqb f g ne)) ∙ e))
    ]
kept_made f s x seat Lock answer sound kept made = kept
kept_made f s x seat action answer sound kept made = kept

pub published_is_kept : AllPublishedIsKept
published_is_kept zone run legal f =
    let kept = told_run (λ x seat action answer. published_after f x action answer) (IsKept f) (kept_still f) (kept_made f) zone false
    (λ e. absurd (false≢true e)) run legal in
    record {
      head = λ e. used_head ((state_of zone run).phases f) (kept e);
      used_or_ended = kept;
    }
