-- Every frame has exactly one place, the one that its phase tells.
use Rattle.std.proofs.Common.{◌≡◌, ℕ, ◌+◌, ◌^◌, ◌<◌, ◌≤◌, ◌&&◌, ◌||◌, ◌==◌, Bool, true, false, Option, Some, length, refl, sym, ◌∙◌, ap}
use Rattle.std.proofs.Common.{subst, arith, inl, inr, cond, if◌then◌else◌, eq-eqb}
use Rattle.std.specs.Prelude.{nat_le, not}
use Rattle.std.proofs.lemmas.Bool.{cases_eq, false≢true, true≢false, leb-true, cond-true, cond-false, lt-ltb, eqb-true}
use Rattle.zone_blocks.specs.declared.block.Block.{Block}
use Rattle.step_rules.specs.declared.phase.ChargedUnit.{ChargedUnit}
use Rattle.step_rules.specs.declared.phase.Way.TheVariants.{PassingOut, OnList}
use Rattle.step_rules.specs.declared.phase.Stage.{Stage}
use Rattle.step_rules.specs.declared.phase.Stage.TheVariants.{Collected, Bare, Live, AwaitsReturn}
use Rattle.step_rules.specs.declared.phase.Phase.{Phase}
use Rattle.step_rules.specs.declared.phase.Phase.TheVariants.{InZone, Lent, Head, Tail}
use Rattle.step_rules.specs.declared.step.FramePlace.{FramePlace}
use Rattle.step_rules.specs.declared.step.FramePlace.TheVariants.{Free, LentTo, Charged}
use Rattle.step_rules.specs.declared.step.Action.{Action}
use Rattle.step_rules.specs.declared.step.Action.TheVariants.{Lock, Put, Freeze, Unfreeze, PassOut, TakeIn, PassBack, Collect, Consume}
use Rattle.step_rules.specs.declared.step.Action.TheVariants.{Credit, PlaceBlock, Return}
use Rattle.step_rules.specs.declared.step.Answer.{Answer}
use Rattle.step_rules.specs.declared.step.Answer.TheVariants.{Illegal, Done, Last, Took, Stocked, Placed}
use Rattle.step_rules.specs.Phases.{FreshFrame, has_as, is_free, passes_out, passes_back, unit_of, at_stage, stage_after_last, passed_back, collected, is_returnable}
use Rattle.step_rules.specs.State.{Zone, State, at_boot, with_at, front_of, is_cpu, is_frame}
use Rattle.step_rules.specs.Legal.{is_legal, IsAnswer, IsMade}
use Rattle.step_rules.specs.After.{after, state_of, is_within, placed_phase, with_block, unit_size, without_unit, consumed}
use Rattle.step_rules.specs.Units.{Units, no_units, units_after}
use Rattle.step_rules.specs.Places.{Places, is_same_frame_place, places_at_boot, moved, returned, credited_place, places_after, place_in, EveryFrameHasOnePlace}
use Rattle.step_rules.specs.Invariant.{KeepsInvariant}
use Rattle.step_rules.proofs.LegalTests.{collect_tests, consume_tests, credit_tests, pass_out_tests, return_tests, take_in_tests}
use Rattle.step_rules.proofs.Basics.{at_same, at_other, at_each}
use Rattle.step_rules.proofs.PhaseLemmas.{free_is, out_is, listed_is, fresh_is, came_back, CameBack, FromList, FromFresh, FromBack}
use Rattle.step_rules.proofs.PhaseLemmas.{returning_is, Returns, AsEnded, AsKilled}
use Rattle.step_rules.proofs.Passing.{front_listed, in_zone}
use Rattle.step_rules.proofs.Placing.{within_cases, block_free, in_block, off_block, in_unit, off_unit}
use Rattle.step_rules.proofs.Runs.{after_illegal}
use Rattle.step_rules.proofs.Telling.{told_run}
use Rattle.step_rules.proofs.Uniting.{HasUnits, units_still, units_made, units_boot, front_told}

pub same_place_itself : (p : FramePlace) → is_same_frame_place p p ≡ true
same_place_itself Free = refl
same_place_itself (LentTo p) = eq-eqb p p refl
same_place_itself (Charged g) = eq-eqb g g refl

pub same_place_is : (p q : FramePlace) → is_same_frame_place p q ≡ true → p ≡ q
same_place_is Free Free e = refl
same_place_is (LentTo p) (LentTo q) e = ap LentTo (eqb-true p q e)
same_place_is (Charged g) (Charged h) e = ap Charged (eqb-true g h e)
same_place_is p q e = absurd (false≢true e)

-- the set of pairs has for each frame of the zone the place that its phase tells, and no other pair
abbrev pub AreTold : Zone → (ℕ → Phase) → Places → Type 0
AreTold zone phases places = (f : ℕ) (p : FramePlace) → places f p ≡ (is_frame zone f && is_same_frame_place p (place_in (phases f)))

-- frames of one place go to another
moves_told : (zone : Zone) (phases later : ℕ → Phase) (places : Places) (at n : ℕ) (old new : FramePlace) → AreTold zone phases places →
    ((x : ℕ) → at ≤ x → x < at + n → is_within at n x ≡ true → (is_frame zone x ≡ true) × (place_in (phases x) ≡ old) × (place_in (later x) ≡ new)) →
    ((x : ℕ) → is_within at n x ≡ false → place_in (later x) ≡ place_in (phases x)) →
    AreTold zone later (moved places at n old new)
moves_told zone phases later places at n old new told inside outside f p =
    elim (within_cases at n f) [
      | inl within ↦
          let known = inside f within.1 within.2 within.0 in
          let before : places f p ≡ is_same_frame_place p old = told f p ∙ (λ i. known.0 i && is_same_frame_place p (known.1 i)) in
          let after_it : (is_frame zone f && is_same_frame_place p (place_in (later f))) ≡ is_same_frame_place p new = (λ i. known.0 i && is_same_frame_place p (known.2 i)) in
          cond-true (is_within at n f) (is_same_frame_place p new || (places f p && not (is_same_frame_place p old))) (places f p) within.0
          ∙ ap (λ b. is_same_frame_place p new || (b && not (is_same_frame_place p old))) before
          ∙ neither (is_same_frame_place p new) (is_same_frame_place p old)
          ∙ sym after_it
      | inr without ↦
          cond-false (is_within at n f) (is_same_frame_place p new || (places f p && not (is_same_frame_place p old))) (places f p) without.0
          ∙ told f p ∙ ap (λ q. is_frame zone f && is_same_frame_place p q) (sym (outside f without.0))
    ]
  where
    neither : (a b : Bool) → (a || (b && not b)) ≡ a
    neither true b = refl
    neither false true = refl
    neither false false = refl

-- one frame goes to another place
one_told : (zone : Zone) (phases : ℕ → Phase) (places : Places) (f : ℕ) (y : Phase) (old new : FramePlace) → AreTold zone phases places →
    is_frame zone f ≡ true → place_in (phases f) ≡ old → place_in y ≡ new →
    AreTold zone (with_at phases f y) (moved places f 1 old new)
one_told zone phases places f y old new told frame was is =
    moves_told zone phases (with_at phases f y) places f 1 old new told
    (λ x low high within.
    let e : f ≡ x = omega arith in
    subst (λ (k : ℕ). (is_frame zone k ≡ true) × (place_in (phases k) ≡ old) × (place_in (with_at phases f y k) ≡ new)) e
    (frame, was, ap place_in (at_same phases f y) ∙ is))
    (λ x off. ap place_in (at_other phases f y x (λ e. true≢false (sym (self x (sym e)) ∙ off))))
  where
    self : (x : ℕ) → f ≡ x → is_within f 1 x ≡ true
    self x e = elim (within_cases f 1 x) [ inl w ↦ w.0 | inr o ↦ absurd (o.1 (omega arith) (omega arith)) ]

-- one frame changes its phase and stays where it is
stays_told : (zone : Zone) (phases : ℕ → Phase) (places : Places) (f : ℕ) (y : Phase) → AreTold zone phases places →
    place_in y ≡ place_in (phases f) → AreTold zone (with_at phases f y) places
stays_told zone phases places f y told same x p =
    told x p ∙ ap (λ q. is_frame zone x && is_same_frame_place p q) (sym (at_each phases f y (λ k z. place_in z ≡ place_in (phases k)) same (λ k ne. refl) x))

staged : (stage : Stage) (x : Phase) → place_in (at_stage stage x) ≡ place_in x
staged stage InZone = refl
staged stage (Lent p way) = refl
staged stage (Head u old) = refl
staged stage (Tail g) = refl

sent : (x : Phase) → place_in (passed_back x) ≡ place_in x
sent InZone = refl
sent (Lent p way) = refl
sent (Head u old) = refl
sent (Tail g) = refl

-- a collected frame of the list is free, and any other stays with its group
collects_told : (zone : Zone) (phases : ℕ → Phase) (places : Places) (f p : ℕ) → AreTold zone phases places → is_frame zone f ≡ true → CameBack p (phases f) →
    AreTold zone (with_at phases f (collected (phases f))) (if places f (LentTo p) then moved places f 1 (LentTo p) Free else places)
collects_told zone phases places f p told frame (FromList was) =
    let there : places f (LentTo p) ≡ true = told f (LentTo p) ∙ (λ i. frame i && is_same_frame_place (LentTo p) (place_in (was i))) ∙ same_place_itself (LentTo p) in
    subst (AreTold zone (with_at phases f (collected (phases f)))) (sym (cond-true (places f (LentTo p)) (moved places f 1 (LentTo p) Free) places there))
    (one_told zone phases places f (collected (phases f)) (LentTo p) Free told frame (ap place_in was) (ap (λ x. place_in (collected x)) was))
collects_told zone phases places f p told frame (FromFresh u was) =
    let not_there : places f (LentTo p) ≡ false = told f (LentTo p) ∙ (λ i. frame i && is_same_frame_place (LentTo p) (place_in (was i))) in
    subst (AreTold zone (with_at phases f (collected (phases f)))) (sym (cond-false (places f (LentTo p)) (moved places f 1 (LentTo p) Free) places not_there))
    (stays_told zone phases places f (collected (phases f)) told (ap (λ x. place_in (collected x)) was ∙ sym (ap place_in was)))
collects_told zone phases places f p told frame (FromBack u was) =
    let not_there : places f (LentTo p) ≡ false = told f (LentTo p) ∙ (λ i. frame i && is_same_frame_place (LentTo p) (place_in (was i))) in
    subst (AreTold zone (with_at phases f (collected (phases f)))) (sym (cond-false (places f (LentTo p)) (moved places f 1 (LentTo p) Free) places not_there))
    (stays_told zone phases places f (collected (phases f)) told (ap (λ x. place_in (collected x)) was ∙ sym (ap place_in was)))

-- a unit in the zone's hand comes back
returns_told : (s : State) (places : Places) (f : ℕ) (u : ChargedUnit) (stage : Stage) → KeepsInvariant s → AreTold s.zone s.phases places →
    s.phases f ≡ Head u stage →
    AreTold s.zone (without_unit s.phases f) (returned places f (unit_of (s.phases f)))
returns_told s places f u stage sound told was =
    let unit : unit_of (s.phases f) ≡ Some u = ap unit_of was in
    let size : unit_size (unit_of (s.phases f)) ≡ 2 ^ u.order = ap unit_size unit in
    subst (λ (o : Option ChargedUnit). AreTold s.zone (without_unit s.phases f) (returned places f o)) (sym unit)
    (moves_told s.zone s.phases (without_unit s.phases f) places f (2 ^ u.order) (Charged u.group) Free told
    (λ x low high within.
    let in_it : is_within f (unit_size (unit_of (s.phases f))) x ≡ true = ap (λ n. is_within f n x) size ∙ within in
    let kept : (place_in (s.phases x) ≡ Charged u.group) × (is_free (s.phases x) ≡ false) = elim (cases_eq x f) [
      | inl e ↦ (ap (λ (k : ℕ). place_in (s.phases k)) e ∙ ap place_in was, ap (λ (k : ℕ). is_free (s.phases k)) e ∙ ap is_free was)
      | inr ne ↦ let tail = sound.units f u unit x (omega arith) high in (ap place_in tail, ap is_free tail)
    ] in
    (lt-ltb x s.zone.frames (in_zone s x sound kept.1), kept.0, ap place_in (in_unit s.phases f x in_it)))
    (λ x off. ap place_in (off_unit s.phases f x (ap (λ n. is_within f n x) size ∙ off))))

any_return_told : (s : State) (places : Places) (f : ℕ) → KeepsInvariant s → AreTold s.zone s.phases places → Returns s.killed (s.phases f) →
    AreTold s.zone (without_unit s.phases f) (returned places f (unit_of (s.phases f)))
any_return_told s places f sound told (AsEnded u was) = returns_told s places f u AwaitsReturn sound told was
any_return_told s places f sound told (AsKilled u was killed) = returns_told s places f u Collected sound told was

placed_place : (g : ℕ) (b : Block) (x : ℕ) → place_in (placed_phase g b x) ≡ Charged g
placed_place g b x = by_head (x == b.at)
  where
    by_head : (t : Bool) → place_in (cond t (Head (record { group = g; order = b.order }) Bare) (Tail g)) ≡ Charged g
    by_head true = refl
    by_head false = refl

-- how a step moves places, told by the state
abbrev moves_in : State → Places → ℕ → Action → Answer → Places
moves_in s places seat (PassOut f p) Done = moved places f 1 Free (LentTo p)
moves_in s places seat (Collect f p) Done = if places f (LentTo p) then moved places f 1 (LentTo p) Free else places
moves_in s places seat (Consume g) Took = moved places (front_of (s.parts seat).list) 1 (LentTo seat) (Charged g)
moves_in s places seat (Credit f) Stocked = credited_place places seat f (unit_of (s.phases f))
moves_in s places seat (PlaceBlock g k) (Placed b) = moved places b.at (2 ^ b.order) Free (Charged g)
moves_in s places seat (Return f) Done = returned places f (unit_of (s.phases f))
moves_in s places seat action answer = places

-- by the run's own units a step moves them so
moves_same : (s : State) (u : Units) (places : Places) (seat : ℕ) (action : Action) (answer : Answer) → HasUnits s u → IsMade s seat action answer →
    moves_in s places seat action answer ≡ places_after u places seat action answer
moves_same s u places seat (Consume g) Took has made =
    let legal = made.legal in
    let cpu : is_cpu s.zone seat ≡ true = (consume_tests s seat g legal).0 in
    ap (λ (f : ℕ). moved places f 1 (LentTo seat) (Charged g)) (sym (front_told s u has seat cpu))
moves_same s u places seat (Credit f) Stocked has made =
    ap (λ (m : Option ChargedUnit × Option ℕ). credited_place places seat f m.0) (has.marked f)
moves_same s u places seat (PlaceBlock g k) (Placed b) has made = ap (λ (o : ℕ). moved places b.at (2 ^ o) Free (Charged g)) made.answered.0
moves_same s u places seat (Return f) Done has made =
    ap (λ (m : Option ChargedUnit × Option ℕ). returned places f m.0) (has.marked f)
moves_same s u places seat Lock answer has made = refl
moves_same s u places seat action answer has made = refl

-- an illegal step moves nothing
places_unchanged : (s : State) (places : Places) (seat : ℕ) (action : Action) → AreTold s.zone s.phases places →
    AreTold s.zone (after s seat action Illegal).phases (moves_in s places seat action Illegal)
places_unchanged s places seat Lock told = told
places_unchanged s places seat action told = told

places_made : (s : State) (places : Places) (seat : ℕ) (action : Action) (answer : Answer) → KeepsInvariant s → AreTold s.zone s.phases places →
    is_legal s seat action ≡ true → IsAnswer s seat action answer →
    AreTold s.zone (after s seat action answer).phases (moves_in s places seat action answer)
places_made s places seat action Illegal sound told legal ok = places_unchanged s places seat action told
places_made s places seat (Put f) Last sound told legal ok =
    stays_told s.zone s.phases places f (at_stage (stage_after_last seat) (s.phases f)) told (staged (stage_after_last seat) (s.phases f))
places_made s places seat (Freeze f n) Done sound told legal ok =
    stays_told s.zone s.phases places f (at_stage AwaitsReturn (s.phases f)) told (staged AwaitsReturn (s.phases f))
places_made s places seat (Unfreeze f n) Done sound told legal ok =
    stays_told s.zone s.phases places f (at_stage Live (s.phases f)) told (staged Live (s.phases f))
places_made s places seat (PassOut f p) Done sound told legal ok =
    let frame : is_frame s.zone f ≡ true = (pass_out_tests s seat f p legal).1 in
    let free : is_free (s.phases f) ≡ true = (pass_out_tests s seat f p legal).3 in
    one_told s.zone s.phases places f (Lent p PassingOut) Free (LentTo p) told frame (ap place_in (free_is (s.phases f) free)) refl
places_made s places seat (TakeIn f) Done sound told legal ok =
    let passes : passes_out seat (s.phases f) ≡ true = (take_in_tests s seat f legal).2 in
    stays_told s.zone s.phases places f (Lent seat OnList) told (sym (ap place_in (out_is seat (s.phases f) passes)))
places_made s places seat (PassBack f) Done sound told legal ok = stays_told s.zone s.phases places f (passed_back (s.phases f)) told (sent (s.phases f))
places_made s places seat (Collect f p) Done sound told legal ok =
    let frame : is_frame s.zone f ≡ true = (collect_tests s seat f p legal).1 in
    let passes : passes_back p (s.phases f) ≡ true = (collect_tests s seat f p legal).3 in
    collects_told s.zone s.phases places f p told frame (came_back p (s.phases f) passes)
places_made s places seat (Consume g) Took sound told legal ok =
    let some : nat_le 1 (length (s.parts seat).list) ≡ true = (consume_tests s seat g legal).1 in
    let f = front_of (s.parts seat).list in
    let was : s.phases f ≡ Lent seat OnList = listed_is seat (s.phases f) (front_listed s seat sound (leb-true 1 (length (s.parts seat).list) some)) in
    one_told s.zone s.phases places f (consumed seat g) (LentTo seat) (Charged g) told (lt-ltb f s.zone.frames (in_zone s f sound (ap is_free was)))
    (ap place_in was) refl
places_made s places seat (Credit f) Stocked sound told legal ok =
    let frame : is_frame s.zone f ≡ true = (credit_tests s seat f legal).1 in
    let fresh : has_as FreshFrame seat (s.phases f) ≡ true = (credit_tests s seat f legal).2 in
    let is = fresh_is seat (s.phases f) fresh in
    subst (λ (o : Option ChargedUnit). AreTold s.zone (with_at s.phases f (Lent seat OnList)) (credited_place places seat f o)) (sym (ap unit_of is.1))
    (one_told s.zone s.phases places f (Lent seat OnList) (Charged (is.0).group) (LentTo seat) told frame (ap place_in is.1) refl)
places_made s places seat (PlaceBlock g k) (Placed b) sound told legal ok =
    moves_told s.zone s.phases (with_block s.phases g b) places b.at (2 ^ b.order) Free (Charged g) told
    (λ x low high within.
    let known = block_free s.zone s.phases b ok.1 x low high in
    (lt-ltb x s.zone.frames known.0, ap place_in (free_is (s.phases x) known.1), ap place_in (in_block s.phases g b x within) ∙ placed_place g b x))
    (λ x off. ap place_in (off_block s.phases g b x off))
places_made s places seat (Return f) Done sound told legal ok =
    let may : is_returnable s.killed (s.phases f) ≡ true = (return_tests s seat f legal).2 in
    any_return_told s places f sound told (returning_is s.killed (s.phases f) may)
places_made s places seat Lock answer sound told legal ok = told
places_made s places seat action answer sound told legal ok = told

pub zone_kept : (s : State) (seat : ℕ) (action : Action) (answer : Answer) → (after s seat action answer).zone ≡ s.zone
zone_kept s seat action Illegal = ap (λ (t : State). t.zone) (after_illegal s seat action)
zone_kept s seat Lock answer = refl
zone_kept s seat action answer = refl

illegal_moves : (u : Units) (places : Places) (seat : ℕ) (action : Action) → places_after u places seat action Illegal ≡ places
illegal_moves u places seat Lock = refl
illegal_moves u places seat action = refl

-- what is told beside the places: the units of the run are those of the state
record Tells (zone : Zone) (s : State) (t : Units × Places) : Type 0 where
  zone_is : s.zone ≡ zone
  units : HasUnits s t.0
  told : AreTold zone s.phases t.1

abbrev tell : Units × Places → ℕ → Action → Answer → Units × Places
tell t seat action answer = (units_after t.0 seat action answer, places_after t.0 t.1 seat action answer)

tell_still : (t : Units × Places) (seat : ℕ) (action : Action) → tell t seat action Illegal ≡ t
tell_still t seat action = λ i. (units_still t.0 seat action i, illegal_moves t.0 t.1 seat action i)

tell_made : (zone : Zone) (s : State) (t : Units × Places) (seat : ℕ) (action : Action) (answer : Answer) → KeepsInvariant s → Tells zone s t →
    IsMade s seat action answer → Tells zone (after s seat action answer) (tell t seat action answer)
tell_made zone s t seat action answer sound tells made =
    let here : AreTold s.zone s.phases t.1 = subst (λ (z : Zone). AreTold z s.phases t.1) (sym tells.zone_is) tells.told in
    let later = places_made s t.1 seat action answer sound here made.legal made.answered in
    record {
      zone_is = zone_kept s seat action answer ∙ tells.zone_is;
      units = units_made s t.0 seat action answer sound tells.units made;
      told = subst (AreTold zone (after s seat action answer).phases) (moves_same s t.0 t.1 seat action answer tells.units made)
          (subst (λ (z : Zone). AreTold z (after s seat action answer).phases (moves_in s t.1 seat action answer)) tells.zone_is later);
    }

pub every_frame_has_one_place : EveryFrameHasOnePlace
every_frame_has_one_place zone run legal =
    let start : Tells zone (at_boot zone) (no_units, places_at_boot zone) =
    record { zone_is = refl; units = units_boot zone; told = λ f p. refl } in
    let told = (told_run tell (Tells zone) tell_still (tell_made zone) zone (no_units, places_at_boot zone) start run legal).told in
    record {
      one = λ f below.
          let place = place_in ((state_of zone run).phases f) in
          let frame : is_frame zone f ≡ true = lt-ltb f zone.frames below in
          record {
            place = place;
            there = told f place ∙ (λ i. frame i && is_same_frame_place place place) ∙ same_place_itself place;
            only = λ p e. same_place_is p place (sym (told f p ∙ (λ i. frame i && is_same_frame_place p place)) ∙ e);
          };
      told = told;
    }
