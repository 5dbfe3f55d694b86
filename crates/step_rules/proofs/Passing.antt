-- Steps that hand a frame over keep what holds of the state.
use Rattle.std.proofs.Common.{◌≡◌, ℕ, ◌<◌, ◌≤◌, true, false, Option, Some, length, refl, sym, ◌∙◌, ap, subst, arith, inl, inr, eq-eqb}
use Rattle.std.proofs.lemmas.Bool.{cases_lt, false≢true, true≢false}
use Rattle.step_rules.specs.declared.phase.Hold.{Hold}
use Rattle.step_rules.specs.declared.phase.Hold.TheVariants.{Visiting}
use Rattle.step_rules.specs.declared.phase.ChargedUnit.{ChargedUnit}
use Rattle.step_rules.specs.declared.phase.Way.TheVariants.{PassingOut, OnList, PassingBack}
use Rattle.step_rules.specs.declared.phase.Stage.TheVariants.{FreshAt, FreshPassing, Collected, BackAt, BackPassing, AwaitsReturn}
use Rattle.step_rules.specs.declared.phase.Phase.{Phase}
use Rattle.step_rules.specs.declared.phase.Phase.TheVariants.{InZone, Lent, Head, Tail}
use Rattle.step_rules.specs.Phases.{Kind, ListFrame, FreshFrame, BackFrame, is_live_phase, is_free, has_as, unit_of, passed_back, collected, passes_out, passes_back}
use Rattle.step_rules.specs.State.{Zone, State, with_at, one_if, frames_of, with_last, front_of, times}
use Rattle.step_rules.specs.After.{with_phase, with_part, without_frame, paid, credited, consumed}
use Rattle.step_rules.specs.Invariant.{PhasePaid, FrameFits, groups_in, IsBooked, StateInvariant, KeepsInvariant}
use Rattle.step_rules.proofs.Lists.{length_without, length_last, front_stands, one_if_true}
use Rattle.step_rules.proofs.Sound.{ListMoves, Stays, Joins, Leaves, sound_one, sound_phase}
use Rattle.step_rules.proofs.PhaseLemmas.{by_kind, free_is, out_is, listed_is, fresh_is, back_is, came_back, CameBack, FromList, FromFresh, FromBack}
use Rattle.step_rules.proofs.PhaseLemmas.{nobody_has, nobody_has_stage, nobody_has_out, nobody_has_returning, nobody_has_fresh_passing}
use Rattle.step_rules.proofs.PhaseLemmas.{nobody_has_back_passing, only_listed, only_fresh, only_back, none_some, equal_test}

-- what holds of a frame that was not live and is not live now
dead_fits : (zone : Zone) (hold : Hold) (groups : ℕ → Option ℕ) (references : ℕ → ℕ) (f : ℕ) (x y : Phase) →
    FrameFits zone hold groups references f x → is_live_phase x ≡ false → f < zone.frames →
    ((q : ℕ) → passes_out q y ≡ true → hold ≡ Visiting q) → ((q : ℕ) → passes_back q y ≡ true → hold ≡ Visiting q) → PhasePaid zone.cpus groups y →
    FrameFits zone hold groups references f y
dead_fits zone hold groups references f x y old dead below out back paid = record {
  out = out;
  returning = back;
  unreferred = λ still. old.unreferred dead;
  seats = old.seats;
  paid = paid;
  inside = λ beyond. absurd (omega arith);
}

was_fits : (s : State) (f : ℕ) (x : Phase) → KeepsInvariant s → s.phases f ≡ x → FrameFits s.zone s.hold (groups_in s.parts) (λ seat. s.references seat f) f x
was_fits s f x sound was = subst (λ (z : Phase). FrameFits s.zone s.hold (groups_in s.parts) (λ seat. s.references seat f) f z) was (sound.frames f)

pub sound_passed_out : (s : State) (f p : ℕ) → KeepsInvariant s → f < s.zone.frames → s.hold ≡ Visiting p → is_free (s.phases f) ≡ true →
    KeepsInvariant (with_phase s f (Lent p PassingOut))
sound_passed_out s f p sound below visit free =
    let was = free_is (s.phases f) free in
    sound_phase s.zone s.hold s.phases s.references s.references s.parts f InZone (Lent p PassingOut) sound was (record {
      fits = dead_fits s.zone s.hold (groups_in s.parts) (λ seat. s.references seat f) f InZone (Lent p PassingOut) (was_fits s f InZone sound was) refl below
          (λ q e. visit ∙ ap Visiting (equal_test p q e)) (λ q e. absurd (false≢true e)) tt;
      others = λ m ne seat. refl;
      group = refl;
      lists = λ kind. Stays refl (nobody_has_out p 0 kind);
      elsewhere = λ q kind ne. nobody_has_out p q kind;
      unit = λ u e. absurd (none_some u e);
      no_tail = λ g e. cc;
      booked = sound.booked 0;
    })

pub sound_taken_in : (s : State) (f p : ℕ) → KeepsInvariant s → f < s.zone.frames → passes_out p (s.phases f) ≡ true →
    KeepsInvariant (with_part (with_phase s f (Lent p OnList)) p (record (s.parts p) { list = with_last (s.parts p).list f }))
sound_taken_in s f p sound below passes =
    let was = out_is p (s.phases f) passes in
    let part = record (s.parts p) { list = with_last (s.parts p).list f } in
    sound_one s.zone s.hold s.phases s.references s.references s.parts f p (Lent p PassingOut) (Lent p OnList) part sound was (record {
      fits = dead_fits s.zone s.hold (groups_in s.parts) (λ seat. s.references seat f) f (Lent p PassingOut) (Lent p OnList)
          (was_fits s f (Lent p PassingOut) sound was) refl below
          (λ q e. absurd (false≢true e)) (λ q e. absurd (false≢true e)) tt;
      others = λ m ne seat. refl;
      group = refl;
      lists = by_kind (λ k. ListMoves f (frames_of (s.parts p) k) (frames_of part k) (has_as k p (Lent p PassingOut)) (has_as k p (Lent p OnList)))
          (Joins refl refl (eq-eqb p p refl)) (Stays refl refl) (Stays refl refl);
      elsewhere = λ q kind ne. only_listed p q kind ne ∙ sym (nobody_has_out p q kind);
      unit = λ u e. absurd (none_some u e);
      no_tail = λ g e. cc;
      booked = sound.booked p;
    })

-- the pages of a part stay booked where one of its frames is passed back
booked_back : (s : State) (f p : ℕ) → KeepsInvariant s → IsBooked (without_frame (s.parts p) (s.phases f) p f)
booked_back s f p sound =
    let a = sound.booked p in
    let b = length_without f (s.parts p).fresh in
    let c : times f (s.parts p).fresh ≡ one_if (has_as FreshFrame p (s.phases f)) = sound.lists p FreshFrame f in
    omega arith

-- a frame of the CPU's list, its fresh or its back frames is passed back
sound_sent : (s : State) (f p : ℕ) (x y : Phase) → KeepsInvariant s → f < s.zone.frames → s.hold ≡ Visiting p → s.phases f ≡ x → passed_back x ≡ y →
    is_live_phase x ≡ false →
    ((q : ℕ) → passes_out q y ≡ true → q ≡ p) → ((q : ℕ) → passes_back q y ≡ true → q ≡ p) → PhasePaid s.zone.cpus (groups_in s.parts) y →
    ((q : ℕ) (kind : Kind) → has_as kind q y ≡ false) → ((q : ℕ) (kind : Kind) → (q ≡ p → ⊥) → has_as kind q x ≡ false) →
    ((u : ChargedUnit) → unit_of y ≡ Some u → unit_of x ≡ Some u) → ((g : ℕ) → x ≡ Tail g → ⊥) →
    KeepsInvariant (with_part (with_phase s f (passed_back (s.phases f))) p (without_frame (s.parts p) (s.phases f) p f))
sound_sent s f p x y sound below visit was is dead out back paid nobody only unit no_tail =
    let part = without_frame (s.parts p) (s.phases f) p f in
    subst (λ (z : Phase). StateInvariant s.zone s.hold (with_at s.phases f z) s.references (with_at s.parts p part)) (sym (ap passed_back was ∙ is))
    (sound_one s.zone s.hold s.phases s.references s.references s.parts f p x y part sound was (record {
      fits = dead_fits s.zone s.hold (groups_in s.parts) (λ seat. s.references seat f) f x y (was_fits s f x sound was) dead below
          (λ q e. visit ∙ ap Visiting (sym (out q e))) (λ q e. visit ∙ ap Visiting (sym (back q e))) paid;
      others = λ m ne seat. refl;
      group = refl;
      lists = by_kind (λ k. ListMoves f (frames_of (s.parts p) k) (frames_of part k) (has_as k p x) (has_as k p y)) (Leaves refl (nobody p ListFrame))
          (Leaves refl (nobody p FreshFrame)) (Leaves refl (nobody p BackFrame));
      elsewhere = λ q kind ne. nobody q kind ∙ sym (only q kind ne);
      unit = λ u e. inr (unit u e);
      no_tail = no_tail;
      booked = booked_back s f p sound;
    }))

pub sound_sent_listed : (s : State) (f p : ℕ) → KeepsInvariant s → f < s.zone.frames → s.hold ≡ Visiting p → has_as ListFrame p (s.phases f) ≡ true →
    KeepsInvariant (with_part (with_phase s f (passed_back (s.phases f))) p (without_frame (s.parts p) (s.phases f) p f))
sound_sent_listed s f p sound below visit has =
    sound_sent s f p (Lent p OnList) (Lent p PassingBack) sound below visit (listed_is p (s.phases f) has) refl refl
    (λ q e. absurd (false≢true e)) (λ q e. sym (equal_test p q e)) tt (nobody_has_returning p) (only_listed p) (λ u e. e) (λ g e. cc)

pub sound_sent_fresh : (s : State) (f p : ℕ) → KeepsInvariant s → f < s.zone.frames → s.hold ≡ Visiting p → has_as FreshFrame p (s.phases f) ≡ true →
    KeepsInvariant (with_part (with_phase s f (passed_back (s.phases f))) p (without_frame (s.parts p) (s.phases f) p f))
sound_sent_fresh s f p sound below visit has =
    let is = fresh_is p (s.phases f) has in
    sound_sent s f p (Head is.0 (FreshAt p)) (Head is.0 (FreshPassing p)) sound below visit is.1 refl refl
    (λ q e. absurd (false≢true e)) (λ q e. sym (equal_test p q e)) tt (nobody_has_fresh_passing is.0 p) (only_fresh is.0 p) (λ u e. e) (λ g e. cc)

pub sound_sent_back : (s : State) (f p : ℕ) → KeepsInvariant s → f < s.zone.frames → s.hold ≡ Visiting p → has_as BackFrame p (s.phases f) ≡ true →
    KeepsInvariant (with_part (with_phase s f (passed_back (s.phases f))) p (without_frame (s.parts p) (s.phases f) p f))
sound_sent_back s f p sound below visit has =
    let is = back_is p (s.phases f) has in
    sound_sent s f p (Head is.0 (BackAt p)) (Head is.0 (BackPassing p)) sound below visit is.1 refl refl
    (λ q e. absurd (false≢true e)) (λ q e. sym (equal_test p q e)) tt (nobody_has_back_passing is.0 p) (only_back is.0 p) (λ u e. e) (λ g e. cc)

-- a frame that was passed back comes to the zone
sound_got : (s : State) (f p : ℕ) (x y : Phase) → KeepsInvariant s → f < s.zone.frames → s.phases f ≡ x → collected x ≡ y → is_live_phase x ≡ false →
    ((q : ℕ) → passes_out q y ≡ false) → ((q : ℕ) → passes_back q y ≡ false) → PhasePaid s.zone.cpus (groups_in s.parts) y →
    ((q : ℕ) (kind : Kind) → has_as kind q y ≡ false) → ((q : ℕ) (kind : Kind) → has_as kind q x ≡ false) →
    ((u : ChargedUnit) → unit_of y ≡ Some u → unit_of x ≡ Some u) → ((g : ℕ) → x ≡ Tail g → ⊥) →
    KeepsInvariant (with_phase s f (collected (s.phases f)))
sound_got s f p x y sound below was is dead out back paid nobody before unit no_tail =
    subst (λ (z : Phase). StateInvariant s.zone s.hold (with_at s.phases f z) s.references s.parts) (sym (ap collected was ∙ is))
    (sound_phase s.zone s.hold s.phases s.references s.references s.parts f x y sound was (record {
      fits = dead_fits s.zone s.hold (groups_in s.parts) (λ seat. s.references seat f) f x y (was_fits s f x sound was) dead below
          (λ q e. absurd (false≢true (sym (out q) ∙ e))) (λ q e. absurd (false≢true (sym (back q) ∙ e))) paid;
      others = λ m ne seat. refl;
      group = refl;
      lists = λ kind. Stays refl (nobody 0 kind ∙ sym (before 0 kind));
      elsewhere = λ q kind ne. nobody q kind ∙ sym (before q kind);
      unit = λ u e. inr (unit u e);
      no_tail = no_tail;
      booked = sound.booked 0;
    }))

pub sound_collected : (s : State) (f p : ℕ) → KeepsInvariant s → f < s.zone.frames → passes_back p (s.phases f) ≡ true →
    KeepsInvariant (with_phase s f (collected (s.phases f)))
sound_collected s f p sound below passes = got (came_back p (s.phases f) passes)
  where
    got : CameBack p (s.phases f) → KeepsInvariant (with_phase s f (collected (s.phases f)))
    got (FromList was) = sound_got s f p (Lent p PassingBack) InZone sound below was refl refl (λ q. refl) (λ q. refl) tt (nobody_has InZone refl)
        (nobody_has_returning p) (λ u e. e) (λ g e. cc)
    got (FromFresh u was) = sound_got s f p (Head u (FreshPassing p)) (Head u Collected) sound below was refl refl (λ q. refl) (λ q. refl) tt
        (nobody_has_stage u Collected refl) (nobody_has_fresh_passing u p) (λ v e. e) (λ g e. cc)
    got (FromBack u was) = sound_got s f p (Head u (BackPassing p)) (Head u AwaitsReturn) sound below was refl refl (λ q. refl) (λ q. refl) tt
        (nobody_has_stage u AwaitsReturn refl) (nobody_has_back_passing u p) (λ v e. e) (λ g e. cc)

-- a frame of a list is on it
pub front_listed : (s : State) (p : ℕ) → KeepsInvariant s → 1 ≤ length (s.parts p).list → has_as ListFrame p (s.phases (front_of (s.parts p).list)) ≡ true
front_listed s p sound some =
    let a = front_stands (s.parts p).list some in
    let b : times (front_of (s.parts p).list) (s.parts p).list ≡ one_if (has_as ListFrame p (s.phases (front_of (s.parts p).list))) =
    sound.lists p ListFrame (front_of (s.parts p).list) in
    one_if_true (has_as ListFrame p (s.phases (front_of (s.parts p).list))) (omega arith)

-- a frame of a list is in the zone
pub in_zone : (s : State) (f : ℕ) → KeepsInvariant s → is_free (s.phases f) ≡ false → f < s.zone.frames
in_zone s f sound busy = elim (cases_lt f s.zone.frames) [ inl below ↦ below | inr beyond ↦ absurd (true≢false (sym ((sound.frames f).inside beyond) ∙ busy)) ]

pub sound_consumed : (s : State) (p g : ℕ) → KeepsInvariant s → 1 ≤ p → p ≤ s.zone.cpus → 1 ≤ length (s.parts p).list → (s.parts p).stock.group ≡ Some g →
    1 ≤ (s.parts p).stock.pages →
    KeepsInvariant (with_part (with_phase s (front_of (s.parts p).list) (consumed p g)) p (paid (s.parts p)))
sound_consumed s p g sound low high some group pages =
    let f = front_of (s.parts p).list in
    let was : s.phases f ≡ Lent p OnList = listed_is p (s.phases f) (front_listed s p sound some) in
    let below : f < s.zone.frames = in_zone s f sound (ap is_free was) in
    sound_one s.zone s.hold s.phases s.references s.references s.parts f p (Lent p OnList) (consumed p g) (paid (s.parts p)) sound was (record {
      fits = dead_fits s.zone s.hold (groups_in s.parts) (λ seat. s.references seat f) f (Lent p OnList) (consumed p g)
          (was_fits s f (Lent p OnList) sound was) refl below
          (λ q e. absurd (false≢true e)) (λ q e. absurd (false≢true e)) (record { group = group; order = refl; low = low; high = high });
      others = λ m ne seat. refl;
      group = refl;
      lists = by_kind (λ k. ListMoves f (frames_of (s.parts p) k) (frames_of (paid (s.parts p)) k) (has_as k p (Lent p OnList))
          (has_as k p (consumed p g))) (Leaves refl refl) (Joins refl refl (eq-eqb p p refl)) (Stays refl refl);
      elsewhere = λ q kind ne. only_fresh (record { group = g; order = 0 }) p q kind ne ∙ sym (only_listed p q kind ne);
      unit = λ u e. inl (let same : record { group = g; order = 0 } ≡ u = cc in ap (λ (v : ChargedUnit). v.order) (sym same));
      no_tail = λ k e. cc;
      booked = let a = sound.booked p in let b = length_last f (s.parts p).fresh in omega arith;
    })

pub sound_credited : (s : State) (f p : ℕ) → KeepsInvariant s → f < s.zone.frames → has_as FreshFrame p (s.phases f) ≡ true →
    KeepsInvariant (with_part (with_phase s f (Lent p OnList)) p (credited (s.parts p) f))
sound_credited s f p sound below has =
    let is = fresh_is p (s.phases f) has in
    sound_one s.zone s.hold s.phases s.references s.references s.parts f p (Head is.0 (FreshAt p)) (Lent p OnList) (credited (s.parts p) f) sound is.1 (record {
      fits = dead_fits s.zone s.hold (groups_in s.parts) (λ seat. s.references seat f) f (Head is.0 (FreshAt p)) (Lent p OnList)
          (was_fits s f (Head is.0 (FreshAt p)) sound is.1) refl below
          (λ q e. absurd (false≢true e)) (λ q e. absurd (false≢true e)) tt;
      others = λ m ne seat. refl;
      group = refl;
      lists = by_kind (λ k. ListMoves f (frames_of (s.parts p) k) (frames_of (credited (s.parts p) f) k) (has_as k p (Head is.0 (FreshAt p)))
          (has_as k p (Lent p OnList))) (Joins refl refl (eq-eqb p p refl)) (Leaves refl refl) (Stays refl refl);
      elsewhere = λ q kind ne. only_listed p q kind ne ∙ sym (only_fresh is.0 p q kind ne);
      unit = λ u e. absurd (none_some u e);
      no_tail = λ g e. cc;
      booked =
          let a = sound.booked p in
          let b = length_without f (s.parts p).fresh in
          let c : times f (s.parts p).fresh ≡ one_if (has_as FreshFrame p (s.phases f)) = sound.lists p FreshFrame f in
          let d : one_if (has_as FreshFrame p (s.phases f)) ≡ 1 = ap one_if has in
          omega arith;
    })
