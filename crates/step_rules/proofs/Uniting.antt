-- The units of the state are those that a run says. Serves `units_follow_the_run`.
use Rattle.std.proofs.Common.{◌≡◌, ℕ, ◌+◌, ◌^◌, ◌<◌, ◌≤◌, ◌==◌, Bool, true, false, Option, Some, None, [], ◌∷◌, refl, sym, ◌∙◌, ap, arith}
use Rattle.std.proofs.Common.{inl, inr, cond, eq-eqb}
use Rattle.std.specs.Prelude.{nat_le}
use Rattle.std.specs.List.{fold}
use Rattle.std.proofs.lemmas.Bool.{cases_eq, ne_eqb, leb-true}
use Rattle.std.proofs.lemmas.Nat.{pow_pos}
use Rattle.zone_blocks.specs.declared.block.Block.{Block}
use Rattle.step_rules.specs.declared.phase.ChargedUnit.{ChargedUnit}
use Rattle.step_rules.specs.declared.phase.Way.TheVariants.{PassingOut, OnList}
use Rattle.step_rules.specs.declared.phase.Stage.{Stage}
use Rattle.step_rules.specs.declared.phase.Stage.TheVariants.{FreshAt, Live, BackAt, AwaitsReturn}
use Rattle.step_rules.specs.declared.phase.Phase.{Phase}
use Rattle.step_rules.specs.declared.phase.Phase.TheVariants.{Lent, Head}
use Rattle.step_rules.specs.declared.step.Action.{Action}
use Rattle.step_rules.specs.declared.step.Action.TheVariants.{Lock, Put, Freeze, Unfreeze, PassOut, TakeIn, PassBack, Collect, Consume, Credit, PlaceBlock, Return}
use Rattle.step_rules.specs.declared.step.Answer.{Answer}
use Rattle.step_rules.specs.declared.step.Answer.TheVariants.{Illegal, Done, Last, Took, Stocked, Placed}
use Rattle.step_rules.specs.{is_free, passes_out, passes_back, unit_of, at_stage, stage_after_last, passed_back, collected, is_head_in_hand}
use Rattle.step_rules.specs.{is_returnable, Zone, at_boot, with_at, front_of, is_cpu, IsMade, Run, IsLegalRun, after, state_of, placed_phase}
use Rattle.step_rules.specs.{with_block, unit_size, without_unit, consumed, InHand, hand_after, unit_after, fresh_after, units_after, no_units}
use Rattle.step_rules.specs.{units_after_run, fresh_group, AllUnitsFollowRun, KeepsInvariant}
use Rattle.step_rules.specs.State.{State}
use Rattle.step_rules.specs.Units.{Units}
use Rattle.step_rules.proofs.LegalTests.{collect_tests, consume_tests, freeze_tests, pass_out_tests, put_tests, return_tests}
use Rattle.step_rules.proofs.LegalTests.{take_in_tests, unfreeze_tests}
use Rattle.step_rules.proofs.Basics.{at_same, at_other, at_each}
use Rattle.step_rules.proofs.SoundSteps.{cpu_range}
use Rattle.step_rules.proofs.PhaseLemmas.{live_is, free_is, out_is, in_hand, InHand as Hand, WasCollected, WasBare, WasEnded}
use Rattle.step_rules.proofs.PhaseLemmas.{came_back, CameBack, FromList, FromFresh, FromBack, returning_is, Returns, AsEnded, AsKilled}
use Rattle.step_rules.proofs.Referring.{live_from_one}
use Rattle.step_rules.proofs.Placing.{within_cases, block_free, in_block, off_block, in_unit, off_unit}
use Rattle.step_rules.proofs.LocalLaws.{no_illegal}
use Rattle.step_rules.proofs.Telling.{told_run, hand_in, hand_made}

-- the unit of a phase, and the group for which the frame is fresh in it
abbrev Marks : Type 0
Marks = Option ChargedUnit × Option ℕ

abbrev marks : Phase → Marks
marks x = (unit_of x, fresh_group x)

no_marks : (x : Phase) → is_free x ≡ true → marks x ≡ (None, None)
no_marks x free = ap marks (free_is x free)

-- one frame goes to a phase with the same marks
same_at : (phases : ℕ → Phase) (g : ℕ) (y : Phase) (f : ℕ) (x : Marks) → marks y ≡ marks (phases g) → marks (phases f) ≡ x → marks (with_at phases g y f) ≡ x
same_at phases g y f x same holds = at_each phases g y (λ m z. marks z ≡ marks (phases m)) same (λ m ne. refl) f ∙ holds

at_it : (phases : ℕ → Phase) (g : ℕ) (y : Phase) (f : ℕ) → g ≡ f → with_at phases g y f ≡ y
at_it phases g y f same = ap (with_at phases g y) (sym same) ∙ at_same phases g y

off_it : (phases : ℕ → Phase) (g : ℕ) (y : Phase) (f : ℕ) → (g ≡ f → ⊥) → with_at phases g y f ≡ phases f
off_it phases g y f ne = at_other phases g y f (λ e. ne (sym e))

last_marks : (seat : ℕ) (u : ChargedUnit) → marks (at_stage (stage_after_last seat) (Head u Live)) ≡ marks (Head u Live)
last_marks seat u = by_seat (seat == 0)
  where
    by_seat : (b : Bool) → marks (Head u (cond b AwaitsReturn (BackAt seat))) ≡ marks (Head u Live)
    by_seat true = refl
    by_seat false = refl

sent_stage : (stage : Stage) (u : ChargedUnit) → marks (passed_back (Head u stage)) ≡ marks (Head u stage)
sent_stage (FreshAt p) u = refl
sent_stage (BackAt p) u = refl
sent_stage stage u = refl

sent_marks : (x : Phase) → marks (passed_back x) ≡ marks x
sent_marks (Head u stage) = sent_stage stage u
sent_marks x = refl

got_marks : (p : ℕ) (x : Phase) → CameBack p x → marks (collected x) ≡ marks x
got_marks p x (FromList e) = ap (λ y. marks (collected y)) e ∙ sym (ap marks e)
got_marks p x (FromFresh u e) = ap (λ y. marks (collected y)) e ∙ sym (ap marks e)
got_marks p x (FromBack u e) = ap (λ y. marks (collected y)) e ∙ sym (ap marks e)

woken_marks : (x : Phase) → Hand x → marks (at_stage Live x) ≡ (unit_of x, None)
woken_marks x (WasCollected u e) = ap (λ y. marks (at_stage Live y)) e ∙ sym (ap (λ y. (unit_of y, None)) e)
woken_marks x (WasBare u e) = ap (λ y. marks (at_stage Live y)) e ∙ sym (ap (λ y. (unit_of y, None)) e)
woken_marks x (WasEnded u e) = ap (λ y. marks (at_stage Live y)) e ∙ sym (ap (λ y. (unit_of y, None)) e)

head_marks : (g : ℕ) (b : Block) (f : ℕ) → f ≡ b.at → marks (placed_phase g b f) ≡ (Some (record { group = g; order = b.order }), None)
head_marks g b f at = rw (eq-eqb f b.at at) refl

tail_marks : (g : ℕ) (b : Block) (f : ℕ) → (f ≡ b.at → ⊥) → marks (placed_phase g b f) ≡ (None, None)
tail_marks g b f ne = rw (ne_eqb f b.at ne) refl

-- a block that is placed: its head has the unit, and no other frame of it has any
block_marks : (s : State) (g k : ℕ) (b : Block) (f : ℕ) (x : Marks) → b.order ≡ k → ((m : ℕ) → b.at ≤ m → m < b.at + 2 ^ b.order → is_free (s.phases m) ≡ true) →
    marks (s.phases f) ≡ x → marks (with_block s.phases g b f) ≡ (cond (b.at == f) (Some (record { group = g; order = k })) x.0, x.1)
block_marks s g k b f x order free holds =
    let some = pow_pos b.order in
    elim (within_cases b.at (2 ^ b.order) f) [
      | inl within ↦
          let none : x ≡ (None, None) = sym holds ∙ no_marks (s.phases f) (free f within.1 within.2) in
          let is : marks (with_block s.phases g b f) ≡ marks (placed_phase g b f) = ap marks (in_block s.phases g b f within.0) in
          elim (cases_eq b.at f) [
            | inl same ↦ rw (eq-eqb b.at f same) (is ∙ head_marks g b f (sym same)
                ∙ (λ i. (Some (record { group = g; order = order i }), (sym none i).1)))
            | inr ne ↦ rw (ne_eqb b.at f ne) (is ∙ tail_marks g b f (λ e. ne (sym e)) ∙ sym none)
          ]
      | inr without ↦
          let ne : b.at ≡ f → ⊥ = λ e. without.1 (omega arith) (omega arith) in
          rw (ne_eqb b.at f ne) (ap marks (off_block s.phases g b f without.0) ∙ holds)
    ]

-- a unit that comes back has none
unit_marks : (s : State) (g f : ℕ) (u : ChargedUnit) (x : Marks) → KeepsInvariant s → unit_of (s.phases g) ≡ Some u → marks (s.phases f) ≡ x →
    marks (without_unit s.phases g f) ≡ (cond (g == f) None x.0, cond (g == f) None x.1)
unit_marks s g f u x sound unit holds =
    let size : unit_size (unit_of (s.phases g)) ≡ 2 ^ u.order = ap unit_size unit in
    let some = pow_pos u.order in
    elim (within_cases g (unit_size (unit_of (s.phases g))) f) [
      | inl within ↦
          let is : marks (without_unit s.phases g f) ≡ (None, None) = ap marks (in_unit s.phases g f within.0) in
          let low = within.1 in
          let high = within.2 in
          elim (cases_eq g f) [
            | inl same ↦ rw (eq-eqb g f same) is
            | inr ne ↦ rw (ne_eqb g f ne) (is ∙ sym (ap marks (sound.units g u unit f (omega arith) (omega arith))) ∙ holds)
          ]
      | inr without ↦
          let ne : g ≡ f → ⊥ = λ e. without.1 (omega arith) (omega arith) in
          rw (ne_eqb g f ne) (ap marks (off_unit s.phases g f without.0) ∙ holds)
    ]

any_unit_marks : (s : State) (g f : ℕ) (x : Marks) → KeepsInvariant s → Returns s.killed (s.phases g) → marks (s.phases f) ≡ x →
    marks (without_unit s.phases g f) ≡ (cond (g == f) None x.0, cond (g == f) None x.1)
any_unit_marks s g f x sound (AsEnded u was) holds = unit_marks s g f u x sound (ap unit_of was) holds
any_unit_marks s g f x sound (AsKilled u was killed) holds = unit_marks s g f u x sound (ap unit_of was) holds

-- the marks of frame f after one more step of a seat whose list begins with `front`
abbrev marks_after : ℕ → ℕ → Marks → Action → Answer → Marks
marks_after f front x action answer = (unit_after f front x.0 action answer, fresh_after f front x.1 action answer)

marks_made : (f front : ℕ) (s : State) (x : Marks) (seat : ℕ) (action : Action) (answer : Answer) → KeepsInvariant s → marks (s.phases f) ≡ x →
    (is_cpu s.zone seat ≡ true → front ≡ front_of (s.parts seat).list) → IsMade s seat action answer →
    marks ((after s seat action answer).phases f) ≡ marks_after f front x action answer
marks_made f front s x seat action Illegal sound holds at made = absurd (no_illegal s seat action made.answered)
marks_made f front s x seat (Put g) Last sound holds at made =
    let legal = made.legal in
    let some : nat_le 1 (s.references seat g) ≡ true = (put_tests s seat g legal).2 in
    let is = live_is (s.phases g) (live_from_one s seat g sound (leb-true 1 (s.references seat g) some)) in
    same_at s.phases g (at_stage (stage_after_last seat) (s.phases g)) f x
    (ap (λ y. marks (at_stage (stage_after_last seat) y)) is.1 ∙ last_marks seat is.0 ∙ sym (ap marks is.1)) holds
marks_made f front s x seat (Freeze g n) Done sound holds at made =
    let legal = made.legal in
    let one : nat_le 1 n ≡ true = (freeze_tests s seat g n legal).2 in
    let some : nat_le n (s.references 0 g) ≡ true = (freeze_tests s seat g n legal).3 in
    let low : 1 ≤ n = leb-true 1 n one in
    let high : n ≤ s.references 0 g = leb-true n (s.references 0 g) some in
    let is = live_is (s.phases g) (live_from_one s 0 g sound (omega arith)) in
    same_at s.phases g (at_stage AwaitsReturn (s.phases g)) f x (ap (λ y. marks (at_stage AwaitsReturn y)) is.1 ∙ sym (ap marks is.1)) holds
marks_made f front s x seat (Unfreeze g n) Done sound holds at made =
    let legal = made.legal in
    let hand : is_head_in_hand (s.phases g) ≡ true = (unfreeze_tests s seat g n legal).2 in
    let y = at_stage Live (s.phases g) in
    elim (cases_eq g f) [
      | inl same ↦
          let unit : unit_of (s.phases g) ≡ x.0 = ap (λ (m : ℕ). unit_of (s.phases m)) same ∙ ap (λ (m : Marks). m.0) holds in
          rw (eq-eqb g f same) (ap marks (at_it s.phases g y f same) ∙ woken_marks (s.phases g) (in_hand (s.phases g) hand) ∙ (λ i. (unit i, None)))
      | inr ne ↦ rw (ne_eqb g f ne) (ap marks (off_it s.phases g y f ne) ∙ holds)
    ]
marks_made f front s x seat (PassOut g p) Done sound holds at made =
    let legal = made.legal in
    let free : is_free (s.phases g) ≡ true = (pass_out_tests s seat g p legal).3 in
    same_at s.phases g (Lent p PassingOut) f x (sym (no_marks (s.phases g) free)) holds
marks_made f front s x seat (TakeIn g) Done sound holds at made =
    let legal = made.legal in
    let passes : passes_out seat (s.phases g) ≡ true = (take_in_tests s seat g legal).2 in
    same_at s.phases g (Lent seat OnList) f x (sym (ap marks (out_is seat (s.phases g) passes))) holds
marks_made f front s x seat (PassBack g) Done sound holds at made = same_at s.phases g (passed_back (s.phases g)) f x (sent_marks (s.phases g)) holds
marks_made f front s x seat (Collect g p) Done sound holds at made =
    let legal = made.legal in
    let passes : passes_back p (s.phases g) ≡ true = (collect_tests s seat g p legal).3 in
    same_at s.phases g (collected (s.phases g)) f x (got_marks p (s.phases g) (came_back p (s.phases g) passes)) holds
marks_made f front s x seat (Consume g) Took sound holds at made =
    let legal = made.legal in
    let cpu : is_cpu s.zone seat ≡ true = (consume_tests s seat g legal).0 in
    let m = front_of (s.parts seat).list in
    let is : front ≡ m = at cpu in
    let y = consumed seat g in
    elim (cases_eq front f) [
      | inl same ↦ rw (eq-eqb front f same) (ap marks (at_it s.phases m y f (sym is ∙ same)))
      | inr ne ↦ rw (ne_eqb front f ne) (ap marks (off_it s.phases m y f (λ e. ne (is ∙ e))) ∙ holds)
    ]
marks_made f front s x seat (Credit g) Stocked sound holds at made =
    let y = Lent seat OnList in
    elim (cases_eq g f) [
      | inl same ↦ rw (eq-eqb g f same) (ap marks (at_it s.phases g y f same))
      | inr ne ↦ rw (ne_eqb g f ne) (ap marks (off_it s.phases g y f ne) ∙ holds)
    ]
marks_made f front s x seat (PlaceBlock g k) (Placed b) sound holds at made =
    block_marks s g k b f x made.answered.0 (λ m low high. (block_free s.zone s.phases b made.answered.1 m low high).1) holds
marks_made f front s x seat (Return g) Done sound holds at made =
    let legal = made.legal in
    let may : is_returnable s.killed (s.phases g) ≡ true = (return_tests s seat g legal).2 in
    any_unit_marks s g f x sound (returning_is s.killed (s.phases g) may) holds
marks_made f front s x seat Lock answer sound holds at made = holds
marks_made f front s x seat action answer sound holds at made = holds

-- the state has the hands of the CPUs, and the marks of each frame
pub record HasUnits (s : State) (u : Units) : Type 0 where
  pub hands : (p : ℕ) → (p ≡ 0 → ⊥) → hand_in (s.parts p) ≡ u.hands p
  pub marked : (f : ℕ) → marks (s.phases f) ≡ (u.unit f, u.fresh_for f)

pub units_still : (u : Units) (seat : ℕ) (action : Action) → units_after u seat action Illegal ≡ u
units_still u seat Lock = refl
units_still u seat action = refl

pub front_told : (s : State) (u : Units) → HasUnits s u → (seat : ℕ) → is_cpu s.zone seat ≡ true → front_of (u.hands seat).list ≡ front_of (s.parts seat).list
front_told s u has seat cpu =
    ap (λ (h : InHand). front_of h.list) (sym (has.hands seat (λ e. (let low = (cpu_range s.zone seat cpu).0 in omega arith))))

pub units_made : (s : State) (u : Units) (seat : ℕ) (action : Action) (answer : Answer) → KeepsInvariant s → HasUnits s u → IsMade s seat action answer →
    HasUnits (after s seat action answer) (units_after u seat action answer)
units_made s u seat action answer sound has made = record {
  hands = λ p some. hand_made p some s (u.hands p) seat action answer (has.hands p some) made;
  marked = λ f. marks_made f (front_of (u.hands seat).list) s (u.unit f, u.fresh_for f) seat action answer sound (has.marked f) (front_told s u has seat) made;
}

pub units_boot : (zone : Zone) → HasUnits (at_boot zone) no_units
units_boot zone = record { hands = λ p some. refl; marked = λ f. refl }

-- the hands told beside the units are those told alone
hands_alone : (run : Run) (u : Units) (p : ℕ) →
    (fold (λ old e. units_after old e.0.seat e.0.action e.1) u run).hands p ≡ fold (λ old e. hand_after p old e.0.seat e.0.action e.1) (u.hands p) run
hands_alone [] u p = refl
hands_alone (e ∷ run) u p = hands_alone run (units_after u e.0.seat e.0.action e.1) p

pub units_in : (zone : Zone) (run : Run) → IsLegalRun zone run → HasUnits (state_of zone run) (units_after_run run)
units_in zone run legal = told_run units_after HasUnits units_still units_made zone no_units (units_boot zone) run legal

pub units_follow_the_run : AllUnitsFollowRun
units_follow_the_run zone run legal f =
    let has = units_in zone run legal in
    record {
      unit = ap (λ (m : Marks). m.0) (has.marked f);
      fresh = ap (λ (m : Marks). m.1) (has.marked f);
      hands = hands_alone run no_units;
    }
