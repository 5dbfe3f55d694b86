-- Steps that change references keep what holds of the state.
use Rattle.std.proofs.Common.{◌≡◌, ℕ, ◌+◌, ◌-◌, ◌<◌, ◌≤◌, ◌==◌, Bool, true, false, Option, Some, refl, sym, ◌∙◌, ap, subst, arith, inl, inr, cond, eq-eqb}
use Rattle.std.proofs.lemmas.Bool.{cases_eq, cases_lt, cases_Bool, ne_eqb, false≢true, true≢false}
use Rattle.step_rules.specs.declared.phase.Hold.{Hold}
use Rattle.step_rules.specs.declared.phase.ChargedUnit.{ChargedUnit}
use Rattle.step_rules.specs.declared.phase.Stage.TheVariants.{Live, BackAt, AwaitsReturn}
use Rattle.step_rules.specs.declared.phase.Phase.{Phase}
use Rattle.step_rules.specs.declared.phase.Phase.TheVariants.{Head, Tail}
use Rattle.step_rules.specs.{Kind, is_live_phase, has_as, unit_of, at_stage, is_head_in_hand, Zone, with_at, live_references, frames_of}
use Rattle.step_rules.specs.{with_references, with_phase, with_back, after_last, FrameFits, groups_in, StateInvariant, KeepsInvariant}
use Rattle.step_rules.specs.State.{State}
use Rattle.step_rules.proofs.Basics.{at_same, at_other, at_each}
use Rattle.step_rules.proofs.Sums.{sum_none, sum_part, sum_alone}
use Rattle.step_rules.proofs.Sound.{ListMoves, Stays, Joins, sound_one, sound_phase, sound_references}
use Rattle.step_rules.proofs.PhaseLemmas.{by_kind, live_is, in_hand, InHand, WasCollected, WasBare, WasEnded, nobody_has_live, nobody_has_stage, only_back}

abbrev pub Referring : Type 0
Referring = ℕ → ℕ → ℕ

-- the references with those of one seat on one frame changed
abbrev pub changed : Referring → ℕ → ℕ → ℕ → Referring
changed references seat f n = with_at references seat (with_at (references seat) f n)

pub changed_others : (references : Referring) (seat f n m : ℕ) → (m ≡ f → ⊥) → (q : ℕ) → changed references seat f n q m ≡ references q m
changed_others references seat f n m ne =
    at_each references seat (with_at (references seat) f n) (λ q r. r m ≡ references q m) (at_other (references seat) f n m ne) (λ q other. refl)

pub changed_seats : (references : Referring) (seat f n q : ℕ) → (q ≡ seat → ⊥) → changed references seat f n q f ≡ references q f
changed_seats references seat f n q ne = ap (λ (r : ℕ → ℕ). r f) (at_other references seat (with_at (references seat) f n) q ne)

pub changed_here : (references : Referring) (seat f n : ℕ) → changed references seat f n seat f ≡ n
changed_here references seat f n = ap (λ (r : ℕ → ℕ). r f) (at_same references seat (with_at (references seat) f n)) ∙ at_same (references seat) f n

-- where there is a reference the frame is live
pub live_from_references : (s : State) (f : ℕ) → KeepsInvariant s → 1 ≤ live_references s f → is_live_phase (s.phases f) ≡ true
live_from_references s f sound some =
    elim (cases_Bool (is_live_phase (s.phases f))) [
      | inl live ↦ live
      | inr dead ↦ absurd (let a =
          sum_none (s.zone.cpus + 1) (λ seat. s.references seat f) (λ seat below. (sound.frames f).unreferred dead seat) in omega arith)
    ]

pub live_from_one : (s : State) (seat f : ℕ) → KeepsInvariant s → 1 ≤ s.references seat f → is_live_phase (s.phases f) ≡ true
live_from_one s seat f sound some =
    elim (cases_Bool (is_live_phase (s.phases f))) [
      | inl live ↦ live
      | inr dead ↦ absurd (let a = (sound.frames f).unreferred dead seat in omega arith)
    ]

-- a seat of which there is a reference is there
pub seat_there : (s : State) (seat f : ℕ) → KeepsInvariant s → 1 ≤ s.references seat f → seat ≤ s.zone.cpus
seat_there s seat f sound some =
    elim (cases_lt s.zone.cpus seat) [
      | inl beyond ↦ absurd (let a = (sound.frames f).seats seat beyond in omega arith)
      | inr within ↦ within
    ]

-- a live frame keeps what holds under other references of a seat that is there
live_fits : (s : State) (seat f n : ℕ) → KeepsInvariant s → is_live_phase (s.phases f) ≡ true → seat ≤ s.zone.cpus →
    FrameFits s.zone s.hold (groups_in s.parts) (λ q. changed s.references seat f n q f) f (s.phases f)
live_fits s seat f n sound live there =
    let old = sound.frames f in
    record {
      out = old.out;
      returning = old.returning;
      unreferred = λ dead. absurd (true≢false (sym live ∙ dead));
      seats = λ q beyond. changed_seats s.references seat f n q (λ e. absurd (omega arith)) ∙ old.seats q beyond;
      paid = old.paid;
      inside = old.inside;
    }

-- a reference more or less on a frame that stays live
pub sound_referred : (s : State) (seat f n : ℕ) → KeepsInvariant s → is_live_phase (s.phases f) ≡ true → seat ≤ s.zone.cpus → KeepsInvariant (with_references s seat f n)
sound_referred s seat f n sound live there =
    let is = live_is (s.phases f) live in
    sound_references s.zone s.hold s.phases s.references (changed s.references seat f n) s.parts f sound (record {
      fits = live_fits s seat f n sound live there;
      others = λ m ne. changed_others s.references seat f n m ne;
      group = refl;
      lists = λ kind. Stays refl refl;
      elsewhere = λ q kind ne. refl;
      unit = λ u e. inr e;
      no_tail = λ g e. absurd (true≢false (sym live ∙ ap is_live_phase e));
      booked = sound.booked 0;
    })

-- where a seat takes all references off, none is left
pub none_left : (s : State) (seat f : ℕ) → KeepsInvariant s → seat ≤ s.zone.cpus → live_references s f ≤ s.references seat f → (q : ℕ) →
    changed s.references seat f 0 q f ≡ 0
none_left s seat f sound there all q =
    elim (cases_eq q seat) [
      | inl e ↦ ap (λ (k : ℕ). changed s.references seat f 0 k f) e ∙ changed_here s.references seat f 0
      | inr ne ↦ changed_seats s.references seat f 0 q ne ∙ elim (cases_lt s.zone.cpus q) [
        | inl beyond ↦ (sound.frames f).seats q beyond
        | inr within ↦ sum_alone (s.zone.cpus + 1) (λ k. s.references k f) seat (omega arith) all q (omega arith) ne
      ]
    ]

-- what holds of a frame without references that doesn't pass and wasn't paid
pub bare_fits : (zone : Zone) (hold : Hold) (groups : ℕ → Option ℕ) (references : ℕ → ℕ) (f : ℕ) (u : ChargedUnit) → ((q : ℕ) → references q ≡ 0) →
    f < zone.frames → FrameFits zone hold groups references f (Head u AwaitsReturn)
bare_fits zone hold groups references f u none below = record {
  out = λ q e. absurd (false≢true e);
  returning = λ q e. absurd (false≢true e);
  unreferred = λ dead seat. none seat;
  seats = λ seat beyond. none seat;
  paid = tt;
  inside = λ beyond. absurd (omega arith);
}

-- the zone takes the last references off
sound_ended : (s : State) (f : ℕ) → KeepsInvariant s → f < s.zone.frames → 1 ≤ s.references 0 f → live_references s f ≤ s.references 0 f →
    KeepsInvariant (with_phase (with_references s 0 f 0) f (at_stage AwaitsReturn (s.phases f)))
sound_ended s f sound below some all =
    let is = live_is (s.phases f) (live_from_one s 0 f sound some) in
    let later = changed s.references 0 f 0 in
    let goal = λ (y : Phase). StateInvariant s.zone s.hold (with_at s.phases f y) later s.parts in
    subst goal (sym (ap (at_stage AwaitsReturn) is.1)) (sound_phase s.zone s.hold s.phases s.references later s.parts f (Head is.0 Live)
    (Head is.0 AwaitsReturn) sound is.1 (record {
      fits = bare_fits s.zone s.hold (groups_in s.parts) (λ q. later q f) f is.0 (none_left s 0 f sound (omega arith) all) below;
      others = λ m ne. changed_others s.references 0 f 0 m ne;
      group = refl;
      lists = λ kind. Stays refl (nobody_has_stage is.0 AwaitsReturn refl 0 kind ∙ sym (nobody_has_live is.0 0 kind));
      elsewhere = λ q kind ne. nobody_has_stage is.0 AwaitsReturn refl q kind ∙ sym (nobody_has_live is.0 q kind);
      unit = λ u e. inr e;
      no_tail = λ g e. cc;
      booked = sound.booked 0;
    }))

pub sound_frozen : (s : State) (f n : ℕ) → KeepsInvariant s → f < s.zone.frames → 1 ≤ n → n ≤ s.references 0 f → live_references s f ≡ n →
    KeepsInvariant (with_phase (with_references s 0 f (s.references 0 f - n)) f (at_stage AwaitsReturn (s.phases f)))
sound_frozen s f n sound below some holds all =
    let part = sum_part (s.zone.cpus + 1) (λ seat. s.references seat f) 0 (omega arith) in
    let none : 0 ≡ s.references 0 f - n = omega arith in
    subst (λ (k : ℕ). KeepsInvariant (with_phase (with_references s 0 f k) f (at_stage AwaitsReturn (s.phases f)))) none
    (sound_ended s f sound below (omega arith) (omega arith))

-- the last put of a CPU
sound_backed : (s : State) (p f : ℕ) → KeepsInvariant s → f < s.zone.frames → p ≤ s.zone.cpus → 1 ≤ s.references p f → live_references s f ≤ s.references p f →
    StateInvariant s.zone s.hold (with_at s.phases f (at_stage (BackAt p) (s.phases f))) (changed s.references p f 0) (with_at s.parts p (with_back (s.parts p) f))
sound_backed s p f sound below there some all =
    let is = live_is (s.phases f) (live_from_one s p f sound some) in
    let later = changed s.references p f 0 in
    let none = none_left s p f sound there all in
    let goal = λ (y : Phase). StateInvariant s.zone s.hold (with_at s.phases f y) later (with_at s.parts p (with_back (s.parts p) f)) in
    subst goal (sym (ap (at_stage (BackAt p)) is.1)) (sound_one s.zone s.hold s.phases s.references later s.parts f p (Head is.0 Live)
    (Head is.0 (BackAt p)) (with_back (s.parts p) f) sound is.1 (record {
      fits = record {
        out = λ q e. absurd (false≢true e);
        returning = λ q e. absurd (false≢true e);
        unreferred = λ dead seat. none seat;
        seats = λ seat beyond. none seat;
        paid = tt;
        inside = λ beyond. absurd (omega arith);
      };
      others = λ m ne. changed_others s.references p f 0 m ne;
      group = refl;
      lists = by_kind (λ k. ListMoves f (frames_of (s.parts p) k) (frames_of (with_back (s.parts p) f) k) (has_as k p (Head is.0 Live))
          (has_as k p (Head is.0 (BackAt p)))) (Stays refl refl) (Stays refl refl) (Joins refl refl (eq-eqb p p refl));
      elsewhere = λ q kind ne. only_back is.0 p q kind ne ∙ sym (nobody_has_live is.0 q kind);
      unit = λ u e. inr e;
      no_tail = λ g e. cc;
      booked = sound.booked p;
    }))

pub sound_last : (s : State) (seat f : ℕ) → KeepsInvariant s → f < s.zone.frames → 1 ≤ s.references seat f → live_references s f ≡ 1 → KeepsInvariant (after_last s seat f)
sound_last s seat f sound below some one =
    let there = seat_there s seat f sound some in
    let part = sum_part (s.zone.cpus + 1) (λ q. s.references q f) seat (omega arith) in
    let none : 0 ≡ s.references seat f - 1 = omega arith in
    elim (cases_eq seat 0) [
      | inl zero_seat ↦ subst (λ (k : ℕ). KeepsInvariant (after_last s k f)) (sym zero_seat)
          (let e : s.references 0 f ≡ s.references seat f = ap (λ (k : ℕ). s.references k f) (sym zero_seat) in
          subst (λ (k : ℕ). KeepsInvariant (with_phase (with_references s 0 f k) f (at_stage AwaitsReturn (s.phases f))))
          (let z : 0 ≡ s.references 0 f - 1 = omega arith in z) (sound_ended s f sound below (omega arith) (omega arith)))
      | inr ne ↦
          let other : (seat == 0) ≡ false = ne_eqb seat 0 ne in
          let goal = λ (b : Bool) (k : ℕ). StateInvariant s.zone s.hold (with_at s.phases f (at_stage (cond b AwaitsReturn (BackAt seat)) (s.phases f)))
          (changed s.references seat f k) (cond b s.parts (with_at s.parts seat (with_back (s.parts seat) f))) in
          subst (λ (b : Bool). goal b (s.references seat f - 1)) (sym other)
          (subst (goal false) none (sound_backed s seat f sound below there some (omega arith)))
    ]

-- the zone puts references on a unit's head in its hand
sound_woken : (s : State) (f n : ℕ) (x : Phase) (u : ChargedUnit) → KeepsInvariant s → f < s.zone.frames → s.phases f ≡ x → unit_of x ≡ Some u →
    at_stage Live x ≡ Head u Live →
    ((q : ℕ) (kind : Kind) → has_as kind q x ≡ false) → ((g : ℕ) → x ≡ Tail g → ⊥) →
    KeepsInvariant (with_phase (with_references s 0 f n) f (at_stage Live (s.phases f)))
sound_woken s f n x u sound below was unit live nobody no_tail =
    let later = changed s.references 0 f n in
    let goal = λ (y : Phase). StateInvariant s.zone s.hold (with_at s.phases f y) later s.parts in
    subst goal (sym (ap (at_stage Live) was ∙ live)) (sound_phase s.zone s.hold s.phases s.references later s.parts f x (Head u Live) sound was (record {
      fits = record {
        out = λ q e. absurd (false≢true e);
        returning = λ q e. absurd (false≢true e);
        unreferred = λ dead. absurd (true≢false dead);
        seats = λ q beyond. changed_seats s.references 0 f n q (λ e. absurd (omega arith)) ∙ (sound.frames f).seats q beyond;
        paid = tt;
        inside = λ beyond. absurd (omega arith);
      };
      others = λ m ne. changed_others s.references 0 f n m ne;
      group = refl;
      lists = λ kind. Stays refl (nobody_has_live u 0 kind ∙ sym (nobody 0 kind));
      elsewhere = λ q kind ne. nobody_has_live u q kind ∙ sym (nobody q kind);
      unit = λ v e. inr (unit ∙ e);
      no_tail = no_tail;
      booked = sound.booked 0;
    }))

pub sound_unfrozen : (s : State) (f n : ℕ) → KeepsInvariant s → f < s.zone.frames → is_head_in_hand (s.phases f) ≡ true →
    KeepsInvariant (with_phase (with_references s 0 f n) f (at_stage Live (s.phases f)))
sound_unfrozen s f n sound below hand = woken (in_hand (s.phases f) hand)
  where
    woken : InHand (s.phases f) → KeepsInvariant (with_phase (with_references s 0 f n) f (at_stage Live (s.phases f)))
    woken (WasCollected u was) = sound_woken s f n _ u sound below was refl refl (nobody_has_stage u _ refl) (λ g e. cc)
    woken (WasBare u was) = sound_woken s f n _ u sound below was refl refl (nobody_has_stage u _ refl) (λ g e. cc)
    woken (WasEnded u was) = sound_woken s f n _ u sound below was refl refl (nobody_has_stage u _ refl) (λ g e. cc)
