-- Every frame comes back once for each use that ended.
use Rattle.std.proofs.Common.{◌≡◌, ℕ, ◌+◌, ◌^◌, ◌<◌, ◌≤◌, ◌==◌, Bool, true, false, Option, Some, None, [], ◌∷◌, ◌++◌, length, refl, sym, ◌∙◌, ap, subst, arith}
use Rattle.std.proofs.Common.{inl, inr, cond, eq-eqb}
use Rattle.std.specs.Prelude.{nat_le, if◌then◌else◌}
use Rattle.std.specs.List.{fold}
use Rattle.std.proofs.lemmas.Bool.{cases_eq, ne_eqb, eqb-true, leb-true}
use Rattle.std.proofs.lemmas.Nat.{pow_pos}
use Rattle.zone_blocks.specs.declared.block.Block.{Block}
use Rattle.step_rules.specs.declared.phase.ChargedUnit.{ChargedUnit}
use Rattle.step_rules.specs.declared.phase.Way.TheVariants.{PassingOut, OnList}
use Rattle.step_rules.specs.declared.phase.Stage.{Stage}
use Rattle.step_rules.specs.declared.phase.Stage.TheVariants.{FreshAt, Collected, Bare, Live, BackAt, AwaitsReturn}
use Rattle.step_rules.specs.declared.phase.Phase.{Phase}
use Rattle.step_rules.specs.declared.phase.Phase.TheVariants.{InZone, Lent, Head, Tail}
use Rattle.step_rules.specs.declared.step.Step.{Step}
use Rattle.step_rules.specs.declared.step.Action.{Action}
use Rattle.step_rules.specs.declared.step.Action.TheVariants.{Lock, Put, Freeze, Unfreeze, PassOut, TakeIn, PassBack, Collect, Consume}
use Rattle.step_rules.specs.declared.step.Action.TheVariants.{Credit, PlaceBlock, Return}
use Rattle.step_rules.specs.declared.step.Answer.{Answer}
use Rattle.step_rules.specs.declared.step.Answer.TheVariants.{Illegal, Done, Last, Took, Stocked, Placed}
use Rattle.step_rules.specs.Phases.{FreshFrame}
use Rattle.step_rules.specs.{has_as, is_free, passes_out, passes_back, unit_of, at_stage, stage_after_last, passed_back, collected, is_head_in_hand}
use Rattle.step_rules.specs.{is_returnable, Zone, at_boot, with_at, one_if, front_of, is_legal, IsAnswer, IsMade, Allows, Run, after, state_of}
use Rattle.step_rules.specs.{IsLegalRun, is_within, placed_phase, with_block, unit_size, without_unit, consumed, was_killed, units_after_run}
use Rattle.step_rules.specs.{fresh_group, phase_awaits_return, is_killed_return_stage, is_killed_return_phase, is_killed_return, is_killed_group}
use Rattle.step_rules.specs.{awaits_return_after, awaits_return, uses_ended, uses_closed, counted_with_state, counted_with_run, EveryFrameReturnsOnce}
use Rattle.step_rules.specs.{KeepsInvariant}
use Rattle.step_rules.specs.State.{State}
use Rattle.step_rules.proofs.LegalTests.{collect_tests, consume_tests, credit_tests, freeze_tests, pass_out_tests, put_tests}
use Rattle.step_rules.proofs.LegalTests.{return_tests, take_in_tests, unfreeze_tests}
use Rattle.step_rules.proofs.Sums.{none_if}
use Rattle.step_rules.proofs.Basics.{at_same, at_other}
use Rattle.step_rules.proofs.PhaseLemmas.{live_is, free_is, out_is, listed_is, fresh_is, in_hand, InHand, WasCollected, WasBare, WasEnded}
use Rattle.step_rules.proofs.PhaseLemmas.{came_back, CameBack, FromList, FromFresh, FromBack, returning_is, Returns, AsEnded, AsKilled}
use Rattle.step_rules.proofs.Referring.{live_from_one}
use Rattle.step_rules.proofs.Passing.{front_listed}
use Rattle.step_rules.proofs.Placing.{within_cases, block_free, in_block, off_block, in_unit, off_unit}
use Rattle.step_rules.proofs.Runs.{after_illegal, allowed, kept_along, sound_boot, sound_run, state_more, legal_more}
use Rattle.step_rules.proofs.LocalLaws.{no_illegal}
use Rattle.step_rules.proofs.Telling.{told_run, groups_follow_the_run}
use Rattle.step_rules.proofs.Uniting.{units_follow_the_run}

abbrev Count : Type 0
Count = State → ℕ → Action → Answer → ℕ

abbrev Told : Type 0
Told = State × (ℕ × ℕ)

tell_both : Count → Count → Told → Step × Answer → Told
tell_both f g t e = (after t.0 e.0.seat e.0.action e.1, (t.1.0 + f t.0 e.0.seat e.0.action e.1, t.1.1 + g t.0 e.0.seat e.0.action e.1))

tell_one : Count → State × ℕ → Step × Answer → State × ℕ
tell_one f t e = (after t.0 e.0.seat e.0.action e.1, t.1 + f t.0 e.0.seat e.0.action e.1)

both_first : (f g : Count) (run : Run) (t : Told) → (fold (tell_both f g) t run).1.0 ≡ (fold (tell_one f) (t.0, t.1.0) run).1
unfolding tell_both tell_one
both_first f g [] t = refl
both_first f g (e ∷ run) t = both_first f g run (tell_both f g t e)

both_last : (f g : Count) (run : Run) (t : Told) → (fold (tell_both f g) t run).1.1 ≡ (fold (tell_one g) (t.0, t.1.1) run).1
unfolding tell_both tell_one
both_last f g [] t = refl
both_last f g (e ∷ run) t = both_last f g run (tell_both f g t e)

-- what is told beside the state is what each step changes
record Tells (F : State → ℕ) (s : State) (t : Told) : Type 0 where
  state : t.0 ≡ s
  sum : t.1.0 ≡ F s + t.1.1

pub counted_so : (gain loss : Count) (F : State → ℕ) → ((zone : Zone) → F (at_boot zone) ≡ 0) →
    ((s : State) (seat : ℕ) (action : Action) (answer : Answer) → KeepsInvariant s → Allows s seat action answer →
    F s + gain s seat action answer ≡ F (after s seat action answer) + loss s seat action answer) →
    (zone : Zone) (run : Run) → IsLegalRun zone run → counted_with_state gain zone run ≡ F (state_of zone run) + counted_with_state loss zone run
unfolding tell_both tell_one
counted_so gain loss F boot each zone run legal =
    let start : Told = (at_boot zone, (0, 0)) in
    let kept = kept_along (tell_both gain loss) (Tells F)
    (λ s t e sound tells ok.
    let change = each s e.0.seat e.0.action e.1 sound ok in
    let sums = tells.sum in
    let a : gain t.0 e.0.seat e.0.action e.1 ≡ gain s e.0.seat e.0.action e.1 = ap (λ r. gain r e.0.seat e.0.action e.1) tells.state in
    let b : loss t.0 e.0.seat e.0.action e.1 ≡ loss s e.0.seat e.0.action e.1 = ap (λ r. loss r e.0.seat e.0.action e.1) tells.state in
    record { state = ap (λ r. after r e.0.seat e.0.action e.1) tells.state; sum = omega arith })
    (at_boot zone) start run (sound_boot zone) (record { state = refl; sum = let z = boot zone in omega arith }) legal in
    sym (both_first gain loss run start) ∙ kept.1.sum ∙ ap (λ n. F (state_of zone run) + n) (both_last gain loss run start)

-- 1 where an end of the frame is open
abbrev opens : Phase → ℕ
opens x = one_if (phase_awaits_return x)

-- one frame changes its phase
phase_changes : (phases : ℕ → Phase) (f m : ℕ) (y : Phase) (i o : ℕ) → opens (phases f) + i ≡ opens y + o →
    opens (phases m) + cond (f == m) i 0 ≡ opens (with_at phases f y m) + cond (f == m) o 0
phase_changes phases f m y i o e =
    elim (cases_eq f m) [
      | inl same ↦
          let a : opens (with_at phases f y m) ≡ opens y = ap (λ (k : ℕ). opens (with_at phases f y k)) (sym same) ∙ ap opens (at_same phases f y) in
          let b : opens (phases m) ≡ opens (phases f) = ap (λ (k : ℕ). opens (phases k)) (sym same) in
          rw (eq-eqb f m same) (omega arith)
      | inr ne ↦
          let a : opens (with_at phases f y m) ≡ opens (phases m) = ap opens (at_other phases f y m (λ d. ne (sym d))) in
          rw (ne_eqb f m ne) (omega arith)
    ]

stays : (phases : ℕ → Phase) (f m : ℕ) (y : Phase) → opens (phases f) ≡ opens y → opens (phases m) + 0 ≡ opens (with_at phases f y m) + 0
stays phases f m y e = let a = phase_changes phases f m y 0 0 (omega arith) in let b = none_if (f == m) 0 refl in omega arith

opened : (phases : ℕ → Phase) (f m : ℕ) (y : Phase) → opens (phases f) ≡ 0 → opens y ≡ 1 →
    opens (phases m) + cond (f == m) 1 0 ≡ opens (with_at phases f y m) + 0
opened phases f m y e d = let a = phase_changes phases f m y 1 0 (omega arith) in let b = none_if (f == m) 0 refl in omega arith

undone : (phases : ℕ → Phase) (f m : ℕ) (y : Phase) → opens y ≡ 0 → opens (phases m) + 0 ≡ opens (with_at phases f y m) + cond (f == m) (opens (phases f)) 0
undone phases f m y e = let a = phase_changes phases f m y 0 (opens (phases f)) (omega arith) in let b = none_if (f == m) 0 refl in omega arith

last_opens : (seat : ℕ) (u : ChargedUnit) → opens (at_stage (stage_after_last seat) (Head u Live)) ≡ 1
last_opens seat u = by_seat (seat == 0)
  where
    by_seat : (b : Bool) → opens (Head u (cond b AwaitsReturn (BackAt seat))) ≡ 1
    by_seat true = refl
    by_seat false = refl

sent_stage : (stage : Stage) (u : ChargedUnit) → opens (Head u stage) ≡ opens (passed_back (Head u stage))
sent_stage (FreshAt p) u = refl
sent_stage stage u = refl

sent_opens : (x : Phase) → opens x ≡ opens (passed_back x)
sent_opens (Head u stage) = sent_stage stage u
sent_opens x = refl

got_opens : (p : ℕ) (x : Phase) → CameBack p x → opens x ≡ opens (collected x)
got_opens p x (FromList e) = ap opens e ∙ sym (ap (λ y. opens (collected y)) e)
got_opens p x (FromFresh u e) = ap opens e ∙ sym (ap (λ y. opens (collected y)) e)
got_opens p x (FromBack u e) = ap opens e ∙ sym (ap (λ y. opens (collected y)) e)

woken_opens : (x : Phase) → InHand x → opens (at_stage Live x) ≡ 0
woken_opens x (WasCollected u e) = ap (λ y. opens (at_stage Live y)) e
woken_opens x (WasBare u e) = ap (λ y. opens (at_stage Live y)) e
woken_opens x (WasEnded u e) = ap (λ y. opens (at_stage Live y)) e

placed_opens : (g : ℕ) (b : Block) (m : ℕ) → opens (placed_phase g b m) ≡ 0
placed_opens g b m = by_head (m == b.at)
  where
    by_head : (t : Bool) → opens (cond t (Head (record { group = g; order = b.order }) Bare) (Tail g)) ≡ 0
    by_head true = refl
    by_head false = refl

-- 1 if a return of the frame is of a killed group's fresh frame
abbrev killed_returns : State → ℕ → ℕ
killed_returns s f = one_if (is_killed_return_phase s.killed (s.phases f))

-- a unit comes back: its head closes its use, and its tails had none
unit_closes : (s : State) (f m : ℕ) (u : ChargedUnit) (stage : Stage) → KeepsInvariant s → s.phases f ≡ Head u stage → opens (s.phases f) + killed_returns s f ≡ 1 →
    opens (s.phases m) + cond (f == m) (killed_returns s f) 0 ≡ opens (without_unit s.phases f m) + cond (f == m) 1 0
unit_closes s f m u stage sound was one =
    let unit : unit_of (s.phases f) ≡ Some u = ap unit_of was in
    let size : unit_size (unit_of (s.phases f)) ≡ 2 ^ u.order = ap unit_size unit in
    elim (cases_eq f m) [
      | inl same ↦
          let back : opens (without_unit s.phases f m) ≡ 0 = ap (λ (k : ℕ). opens (without_unit s.phases f k)) (sym same)
          ∙ ap opens (in_unit s.phases f f (self (let p = pow_pos u.order in omega arith))) in
          let a : opens (s.phases m) ≡ opens (s.phases f) = ap (λ (k : ℕ). opens (s.phases k)) (sym same) in
          rw (eq-eqb f m same) (omega arith)
      | inr ne ↦ elim (within_cases f (unit_size (unit_of (s.phases f))) m) [
        | inl within ↦
            let low = within.1 in
            let high = within.2 in
            let tail : opens (s.phases m) ≡ 0 = ap opens (sound.units f u unit m (omega arith) (omega arith)) in
            let back : opens (without_unit s.phases f m) ≡ 0 = ap opens (in_unit s.phases f m within.0) in
            rw (ne_eqb f m ne) (omega arith)
        | inr without ↦
            let back : opens (without_unit s.phases f m) ≡ opens (s.phases m) = ap opens (off_unit s.phases f m without.0) in
            rw (ne_eqb f m ne) (omega arith)
      ]
    ]
  where
    self : 1 ≤ unit_size (unit_of (s.phases f)) → is_within f (unit_size (unit_of (s.phases f))) f ≡ true
    self some = elim (within_cases f (unit_size (unit_of (s.phases f))) f) [ inl w ↦ w.0 | inr o ↦ absurd (o.1 (omega arith) (omega arith)) ]

any_unit_closes : (s : State) (f m : ℕ) → KeepsInvariant s → Returns s.killed (s.phases f) →
    opens (s.phases m) + cond (f == m) (killed_returns s f) 0 ≡ opens (without_unit s.phases f m) + cond (f == m) 1 0
any_unit_closes s f m sound (AsEnded u was) =
    let a : opens (s.phases f) ≡ 1 = ap opens was in
    let b : killed_returns s f ≡ 0 = ap (λ (x : Phase). one_if (is_killed_return_phase s.killed x)) was in
    unit_closes s f m u AwaitsReturn sound was (omega arith)
any_unit_closes s f m sound (AsKilled u was killed) =
    let a : opens (s.phases f) ≡ 0 = ap opens was in
    let b : killed_returns s f ≡ 1 = ap (λ (x : Phase). one_if (is_killed_return_phase s.killed x)) was ∙ ap one_if killed in
    unit_closes s f m u Collected sound was (omega arith)

block_stays : (s : State) (g : ℕ) (b : Block) (m : ℕ) → ((x : ℕ) → b.at ≤ x → x < b.at + 2 ^ b.order → is_free (s.phases x) ≡ true) →
    opens (s.phases m) + 0 ≡ opens (with_block s.phases g b m) + 0
block_stays s g b m free =
    elim (within_cases b.at (2 ^ b.order) m) [
      | inl within ↦
          let a : opens (s.phases m) ≡ 0 = ap opens (free_is (s.phases m) (free m within.1 within.2)) in
          let c : opens (with_block s.phases g b m) ≡ 0 = ap opens (in_block s.phases g b m within.0) ∙ placed_opens g b m in
          omega arith
      | inr without ↦ let a : opens (with_block s.phases g b m) ≡ opens (s.phases m) = ap opens (off_block s.phases g b m without.0) in omega arith
    ]

-- 1 where a step ends a use of frame f, told by the state
abbrev pub ended_in : ℕ → State → ℕ → Action → Answer → ℕ
ended_in f s seat (Put g) Last = if g == f then 1 else 0
ended_in f s seat (Freeze g n) Done = if g == f then 1 else 0
ended_in f s seat (Credit g) Stocked = if g == f then 1 else 0
ended_in f s seat (Return g) Done = if g == f then one_if (is_killed_return_phase s.killed (s.phases g)) else 0
ended_in f s seat action answer = 0

-- 1 where a step closes one, told by the state
abbrev pub closed_in : ℕ → State → ℕ → Action → Answer → ℕ
closed_in f s seat (Return g) Done = if g == f then 1 else 0
closed_in f s seat (Credit g) Stocked = if g == f then 1 else 0
closed_in f s seat (Unfreeze g n) Done = if g == f then one_if (phase_awaits_return (s.phases g)) else 0
closed_in f s seat action answer = 0

-- an illegal step ends and closes nothing
uses_unchanged : (m : ℕ) (s : State) (seat : ℕ) (action : Action) →
    opens (s.phases m) + ended_in m s seat action Illegal ≡ opens ((after s seat action Illegal).phases m) + closed_in m s seat action Illegal
uses_unchanged m s seat Lock = refl
uses_unchanged m s seat action = refl

pub uses_made : (m : ℕ) (s : State) (seat : ℕ) (action : Action) (answer : Answer) → KeepsInvariant s → is_legal s seat action ≡ true → IsAnswer s seat action answer →
    opens (s.phases m) + ended_in m s seat action answer ≡ opens ((after s seat action answer).phases m) + closed_in m s seat action answer
uses_made m s seat action Illegal sound legal ok = uses_unchanged m s seat action
uses_made m s seat (Put f) Last sound legal ok =
    let some : nat_le 1 (s.references seat f) ≡ true = (put_tests s seat f legal).2 in
    let is = live_is (s.phases f) (live_from_one s seat f sound (leb-true 1 (s.references seat f) some)) in
    opened s.phases f m (at_stage (stage_after_last seat) (s.phases f)) (ap opens is.1)
    (ap (λ x. opens (at_stage (stage_after_last seat) x)) is.1 ∙ last_opens seat is.0)
uses_made m s seat (Freeze f n) Done sound legal ok =
    let one : nat_le 1 n ≡ true = (freeze_tests s seat f n legal).2 in
    let some : nat_le n (s.references 0 f) ≡ true = (freeze_tests s seat f n legal).3 in
    let low : 1 ≤ n = leb-true 1 n one in
    let high : n ≤ s.references 0 f = leb-true n (s.references 0 f) some in
    let is = live_is (s.phases f) (live_from_one s 0 f sound (omega arith)) in
    opened s.phases f m (at_stage AwaitsReturn (s.phases f)) (ap opens is.1) (ap (λ x. opens (at_stage AwaitsReturn x)) is.1)
uses_made m s seat (Unfreeze f n) Done sound legal ok =
    let hand : is_head_in_hand (s.phases f) ≡ true = (unfreeze_tests s seat f n legal).2 in
    undone s.phases f m (at_stage Live (s.phases f)) (woken_opens (s.phases f) (in_hand (s.phases f) hand))
uses_made m s seat (PassOut f p) Done sound legal ok =
    let free : is_free (s.phases f) ≡ true = (pass_out_tests s seat f p legal).3 in
    stays s.phases f m (Lent p PassingOut) (ap opens (free_is (s.phases f) free))
uses_made m s seat (TakeIn f) Done sound legal ok =
    let passes : passes_out seat (s.phases f) ≡ true = (take_in_tests s seat f legal).2 in
    stays s.phases f m (Lent seat OnList) (ap opens (out_is seat (s.phases f) passes))
uses_made m s seat (PassBack f) Done sound legal ok = stays s.phases f m (passed_back (s.phases f)) (sent_opens (s.phases f))
uses_made m s seat (Collect f p) Done sound legal ok =
    let passes : passes_back p (s.phases f) ≡ true = (collect_tests s seat f p legal).3 in
    stays s.phases f m (collected (s.phases f)) (got_opens p (s.phases f) (came_back p (s.phases f) passes))
uses_made m s seat (Consume g) Took sound legal ok =
    let some : nat_le 1 (length (s.parts seat).list) ≡ true = (consume_tests s seat g legal).1 in
    let f = front_of (s.parts seat).list in
    stays s.phases f m (consumed seat g) (ap opens (listed_is seat (s.phases f) (front_listed s seat sound (leb-true 1 (length (s.parts seat).list) some))))
uses_made m s seat (Credit f) Stocked sound legal ok =
    let fresh : has_as FreshFrame seat (s.phases f) ≡ true = (credit_tests s seat f legal).2 in
    phase_changes s.phases f m (Lent seat OnList) 1 1 (ap (λ n. n + 1) (ap opens (fresh_is seat (s.phases f) fresh).1))
uses_made m s seat (PlaceBlock g k) (Placed b) sound legal ok = block_stays s g b m (λ x low high. (block_free s.zone s.phases b ok.1 x low high).1)
uses_made m s seat (Return f) Done sound legal ok =
    let may : is_returnable s.killed (s.phases f) ≡ true = (return_tests s seat f legal).2 in
    any_unit_closes s f m sound (returning_is s.killed (s.phases f) may)
uses_made m s seat Lock answer sound legal ok = refl
uses_made m s seat action answer sound legal ok = refl

-- ---- what is gone
pub one_same : (a b : Bool) → one_if a ≡ one_if b → a ≡ b
one_same true true e = refl
one_same false false e = refl
one_same true false e = absurd (omega arith)
one_same false true e = absurd (omega arith)

-- no frame has an open end and is also a killed group's fresh frame
apart_stage : (b : Bool) (stage : Stage) → one_if (phase_awaits_return (Head (record { group = 0; order = 0 }) stage)) + one_if (is_killed_return_stage b stage) ≤ 1
apart_stage true Collected = omega arith
apart_stage false Collected = omega arith
apart_stage b stage = omega arith

apart : (killed : ℕ → Bool) (x : Phase) → one_if (phase_awaits_return x) + one_if (is_killed_return_phase killed x) ≤ 1
apart killed (Head u stage) = apart_stage (killed u.group) stage
apart killed InZone = omega arith
apart killed (Lent p way) = omega arith
apart killed (Tail g) = omega arith

abbrev IsGone : ℕ → State → Bool → Type 0
IsGone f s x = x ≡ phase_awaits_return (s.phases f)

gone_still : (f : ℕ) (x : Bool) (seat : ℕ) (action : Action) → awaits_return_after f x action Illegal ≡ x
gone_still f x seat Lock = refl
gone_still f x seat action = refl

-- where one frame's end may open or close
changed : (same x y : Bool) (ended closed : ℕ) → one_if x + cond same ended 0 ≡ one_if y + cond same closed 0 → (new : Bool) →
    (same ≡ true → one_if y ≡ one_if new) → cond same new x ≡ y
changed true x y ended closed e new here = one_same new y (sym (here refl))
changed false x y ended closed e new here = one_same x y (omega arith)

ends : (b : Bool) → one_if b ≤ 1
ends true = omega arith
ends false = omega arith

gone_made : (f : ℕ) (s : State) (x : Bool) (seat : ℕ) (action : Action) (answer : Answer) → KeepsInvariant s → IsGone f s x → IsMade s seat action answer →
    IsGone f (after s seat action answer) (awaits_return_after f x action answer)
gone_made f s x seat action Illegal sound holds made = absurd (no_illegal s seat action made.answered)
gone_made f s x seat (Put g) Last sound holds made =
    let later = phase_awaits_return ((after s seat (Put g) Last).phases f) in
    let e : one_if (phase_awaits_return (s.phases f)) + cond (g == f) 1 0 ≡ one_if later + 0 = uses_made f s seat (Put g) Last sound made.legal made.answered in
    ap (λ b. cond (g == f) true b) holds
    ∙ changed (g == f) (phase_awaits_return (s.phases f)) later 1 0 (let z = none_if (g == f) 0 refl in omega arith) true
    (λ same. let a : ◌≡◌ {A = ℕ} (cond (g == f) 1 0) 1 = ap (λ b. cond b 1 0) same in let top = ends later in omega arith)
gone_made f s x seat (Freeze g n) Done sound holds made =
    let later = phase_awaits_return ((after s seat (Freeze g n) Done).phases f) in
    let e : one_if (phase_awaits_return (s.phases f)) + cond (g == f) 1 0 ≡ one_if later + 0 = uses_made f s seat (Freeze g n) Done sound made.legal made.answered in
    ap (λ b. cond (g == f) true b) holds
    ∙ changed (g == f) (phase_awaits_return (s.phases f)) later 1 0 (let z = none_if (g == f) 0 refl in omega arith) true
    (λ same. let a : ◌≡◌ {A = ℕ} (cond (g == f) 1 0) 1 = ap (λ b. cond b 1 0) same in let top = ends later in omega arith)
gone_made f s x seat (Unfreeze g n) Done sound holds made =
    let later = phase_awaits_return ((after s seat (Unfreeze g n) Done).phases f) in
    let was : ℕ = one_if (phase_awaits_return (s.phases g)) in
    let e : one_if (phase_awaits_return (s.phases f)) + 0 ≡ one_if later + cond (g == f) was 0 = uses_made f s seat (Unfreeze g n) Done sound made.legal made.answered in
    ap (λ b. cond (g == f) false b) holds
    ∙ changed (g == f) (phase_awaits_return (s.phases f)) later 0 was (let z = none_if (g == f) 0 refl in omega arith) false
    (λ same.
    let a : cond (g == f) was 0 ≡ was = ap (λ b. cond b was 0) same in
    let b : was ≡ one_if (phase_awaits_return (s.phases f)) = ap (λ (k : ℕ). one_if (phase_awaits_return (s.phases k))) (eqb-true g f same) in
    omega arith)
gone_made f s x seat (Return g) Done sound holds made =
    let later = phase_awaits_return ((after s seat (Return g) Done).phases f) in
    let killed_return : ℕ = one_if (is_killed_return_phase s.killed (s.phases g)) in
    let e : one_if (phase_awaits_return (s.phases f)) + cond (g == f) killed_return 0 ≡ one_if later + cond (g == f) 1 0 =
    uses_made f s seat (Return g) Done sound made.legal made.answered in
    ap (λ b. cond (g == f) false b) holds
    ∙ changed (g == f) (phase_awaits_return (s.phases f)) later killed_return 1 e false
    (λ same.
    let a : cond (g == f) killed_return 0 ≡ killed_return = ap (λ b. cond b killed_return 0) same in
    let b : ◌≡◌ {A = ℕ} (cond (g == f) 1 0) 1 = ap (λ b. cond b 1 0) same in
    let c : killed_return ≡ one_if (is_killed_return_phase s.killed (s.phases f)) = ap (λ (k : ℕ). one_if (is_killed_return_phase s.killed (s.phases k))) (eqb-true g f same) in
    let most = apart s.killed (s.phases f) in
    omega arith)
gone_made f s x seat (Credit g) Stocked sound holds made =
    let later = phase_awaits_return ((after s seat (Credit g) Stocked).phases f) in
    let e : one_if (phase_awaits_return (s.phases f)) + cond (g == f) 1 0 ≡ one_if later + cond (g == f) 1 0 =
    uses_made f s seat (Credit g) Stocked sound made.legal made.answered in
    holds ∙ one_same (phase_awaits_return (s.phases f)) later (omega arith)
gone_made f s x seat Lock answer sound holds made = holds
gone_made f s x seat action answer sound holds made =
    let e = uses_made f s seat action answer sound made.legal made.answered in
    holds ∙ one_same (phase_awaits_return (s.phases f)) (phase_awaits_return ((after s seat action answer).phases f)) (omega arith)

-- what is gone by the run has an open end in the state
pub gone_is_told : (zone : Zone) (run : Run) → IsLegalRun zone run → (f : ℕ) → awaits_return run f ≡ phase_awaits_return ((state_of zone run).phases f)
gone_is_told zone run legal f = told_run (λ x seat action answer. awaits_return_after f x action answer) (IsGone f) (gone_still f) (gone_made f) zone false refl run legal

-- ---- counted along the run
abbrev pub Along : Type 0
Along = Run → ℕ → Action → Answer → ℕ

abbrev Counted : Type 0
Counted = Run × (ℕ × ℕ)

count_both : Along → Along → Counted → Step × Answer → Counted
count_both f g t e = (t.0 ++ e ∷ [], (t.1.0 + f t.0 e.0.seat e.0.action e.1, t.1.1 + g t.0 e.0.seat e.0.action e.1))

count_one : Along → Run × ℕ → Step × Answer → Run × ℕ
count_one f t e = (t.0 ++ e ∷ [], t.1 + f t.0 e.0.seat e.0.action e.1)

counts_first : (f g : Along) (run : Run) (t : Counted) → (fold (count_both f g) t run).1.0 ≡ (fold (count_one f) (t.0, t.1.0) run).1
unfolding count_both count_one
counts_first f g [] t = refl
counts_first f g (e ∷ run) t = counts_first f g run (count_both f g t e)

counts_last : (f g : Along) (run : Run) (t : Counted) → (fold (count_both f g) t run).1.1 ≡ (fold (count_one g) (t.0, t.1.1) run).1
unfolding count_both count_one
counts_last f g [] t = refl
counts_last f g (e ∷ run) t = counts_last f g run (count_both f g t e)

-- the run so far leads to the state, and what it counts is what each step changes
record Counts (zone : Zone) (F : State → ℕ) (s : State) (t : Counted) : Type 0 where
  legal : IsLegalRun zone t.0
  state : state_of zone t.0 ≡ s
  sum : t.1.0 ≡ F s + t.1.1

pub counted_so_along : (gain loss : Along) (F : State → ℕ) (zone : Zone) → F (at_boot zone) ≡ 0 →
    ((run : Run) (seat : ℕ) (action : Action) (answer : Answer) → IsLegalRun zone run → Allows (state_of zone run) seat action answer →
    F (state_of zone run) + gain run seat action answer ≡ F (after (state_of zone run) seat action answer) + loss run seat action answer) →
    (run : Run) → IsLegalRun zone run → counted_with_run gain run ≡ F (state_of zone run) + counted_with_run loss run
unfolding count_both count_one
counted_so_along gain loss F zone boot each run legal =
    let start : Counted = ([], (0, 0)) in
    let kept = kept_along (count_both gain loss) (Counts zone F)
    (λ s t e sound counts ok.
    let here : Allows (state_of zone t.0) e.0.seat e.0.action e.1 =
    subst (λ (r : State). Allows r e.0.seat e.0.action e.1) (sym counts.state) ok in
    let change = each t.0 e.0.seat e.0.action e.1 counts.legal here in
    let a : F (state_of zone t.0) ≡ F s = ap F counts.state in
    let b : F (after (state_of zone t.0) e.0.seat e.0.action e.1) ≡ F (after s e.0.seat e.0.action e.1) =
    ap (λ (r : State). F (after r e.0.seat e.0.action e.1)) counts.state in
    let sums = counts.sum in
    record {
      legal = legal_more zone t.0 e.0 e.1 counts.legal here;
      state = state_more zone t.0 e.0 e.1 ∙ ap (λ (r : State). after r e.0.seat e.0.action e.1) counts.state;
      sum = omega arith;
    })
    (at_boot zone) start run (sound_boot zone) (record { legal = λ k. tt; state = refl; sum = omega arith }) legal in
    sym (counts_first gain loss run start) ∙ kept.1.sum ∙ ap (λ n. F (state_of zone run) + n) (counts_last gain loss run start)

-- ---- returns of killed groups' fresh frames
fresh_killed_return : (killed : ℕ → Bool) (x : Phase) → Returns killed x → is_killed_group killed (fresh_group x) ≡ is_killed_return_phase killed x
fresh_killed_return killed x (AsEnded u was) = ap (λ y. is_killed_group killed (fresh_group y)) was ∙ sym (ap (is_killed_return_phase killed) was)
fresh_killed_return killed x (AsKilled u was dead) = ap (λ y. is_killed_group killed (fresh_group y)) was ∙ sym (ap (is_killed_return_phase killed) was)

killed_group_same : (killed later : ℕ → Bool) → ((g : ℕ) → killed g ≡ later g) → (o : Option ℕ) → is_killed_group killed o ≡ is_killed_group later o
killed_group_same killed later each None = refl
killed_group_same killed later each (Some g) = each g

-- which return the run says is of a killed group's fresh frame
pub killed_return_is_told : (zone : Zone) (run : Run) → IsLegalRun zone run → (f : ℕ) → is_returnable (state_of zone run).killed ((state_of zone run).phases f) ≡ true →
    is_killed_return run f ≡ is_killed_return_phase (state_of zone run).killed ((state_of zone run).phases f)
killed_return_is_told zone run legal f may =
    let s = state_of zone run in
    killed_group_same (was_killed run) s.killed (λ g. sym (groups_follow_the_run zone run legal g).killed) ((units_after_run run).fresh_for f)
    ∙ ap (is_killed_group s.killed) (sym (units_follow_the_run zone run legal f).fresh)
    ∙ fresh_killed_return s.killed (s.phases f) (returning_is s.killed (s.phases f) may)

ends_same : (f : ℕ) (zone : Zone) (run : Run) (seat : ℕ) (action : Action) (answer : Answer) → IsLegalRun zone run → IsMade (state_of zone run) seat action answer →
    uses_ended f run seat action answer ≡ ended_in f (state_of zone run) seat action answer
ends_same f zone run seat (Return g) Done legal made =
    let ok = made.legal in
    let may : is_returnable (state_of zone run).killed ((state_of zone run).phases g) ≡ true = (return_tests (state_of zone run) seat g ok).2 in
    ap (λ b. if g == f then one_if b else 0) (killed_return_is_told zone run legal g may)
ends_same f zone run seat Lock answer legal made = refl
ends_same f zone run seat action answer legal made = refl

closes_same : (f : ℕ) (zone : Zone) (run : Run) (seat : ℕ) (action : Action) (answer : Answer) → IsLegalRun zone run → IsMade (state_of zone run) seat action answer →
    uses_closed f run seat action answer ≡ closed_in f (state_of zone run) seat action answer
closes_same f zone run seat (Unfreeze g n) Done legal made = ap (λ b. if g == f then one_if b else 0) (gone_is_told zone run legal g)
closes_same f zone run seat Lock answer legal made = refl
closes_same f zone run seat action answer legal made = refl

none_unmade : (f : ℕ) (run : Run) (seat : ℕ) (action : Action) → (uses_ended f run seat action Illegal ≡ 0) × (uses_closed f run seat action Illegal ≡ 0)
none_unmade f run seat Lock = (refl, refl)
none_unmade f run seat action = (refl, refl)

uses_allowed : (f : ℕ) (zone : Zone) (run : Run) (seat : ℕ) (action : Action) (answer : Answer) → IsLegalRun zone run →
    Allows (state_of zone run) seat action answer →
    opens ((state_of zone run).phases f) + uses_ended f run seat action answer
    ≡ opens ((after (state_of zone run) seat action answer).phases f) + uses_closed f run seat action answer
uses_allowed f zone run seat action answer legal ok =
    let s = state_of zone run in
    elim (allowed s seat action answer ok) [
      | inl illegal ↦ subst (λ (a : Answer). opens (s.phases f) + uses_ended f run seat action a ≡ opens ((after s seat action a).phases f)
          + uses_closed f run seat action a) (sym illegal)
          (let none = none_unmade f run seat action in
          let same : opens ((after s seat action Illegal).phases f) ≡ opens (s.phases f) = ap (λ (r : State). opens (r.phases f)) (after_illegal s seat action) in
          let a = none.0 in let b = none.1 in omega arith)
      | inr made ↦
          let moved = uses_made f s seat action answer (sound_run zone run legal) made.legal made.answered in
          let a = ends_same f zone run seat action answer legal made in
          let b = closes_same f zone run seat action answer legal made in
          omega arith
    ]

pub every_frame_returns_once : EveryFrameReturnsOnce
unfolding count_one
every_frame_returns_once zone run legal f =
    let s = state_of zone run in
    let sound = sound_run zone run legal in
    record {
      once = counted_so_along (uses_ended f) (uses_closed f) (λ t. opens (t.phases f)) zone refl (uses_allowed f zone) run legal;
      awaited = gone_is_told zone run legal f;
      killed_return = λ seat ok. killed_return_is_told zone run legal f (grind arith);
      none_awaited_at_put = λ seat made.
          let ok = made.legal in
          let some : nat_le 1 (s.references seat f) ≡ true = (put_tests s seat f ok).2 in
          let is = live_is (s.phases f) (live_from_one s seat f sound (leb-true 1 (s.references seat f) some)) in
          ap phase_awaits_return is.1;
      none_awaited_at_freeze = λ seat n made.
          let ok = made.legal in
          let one : nat_le 1 n ≡ true = (freeze_tests s seat f n ok).2 in
          let some : nat_le n (s.references 0 f) ≡ true = (freeze_tests s seat f n ok).3 in
          let low : 1 ≤ n = leb-true 1 n one in
          let high : n ≤ s.references 0 f = leb-true n (s.references 0 f) some in
          let is = live_is (s.phases f) (live_from_one s 0 f sound (omega arith)) in
          ap phase_awaits_return is.1;
    }
