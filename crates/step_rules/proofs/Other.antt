-- Steps of another CPU, under p's cover.
use Rattle.std.proofs.Common.{◌≡◌, ℕ, ◌+◌, ◌-◌, ◌≤◌, ◌||◌, ◌==◌, Bool, true, false, length, refl, sym, ◌∙◌, ap, arith, eq-eqb}
use Rattle.std.specs.Prelude.{nat_le, not}
use Rattle.std.proofs.lemmas.Bool.{ne_eqb, false≢true, and_parts, leb-true, cond-false}
use Rattle.step_rules.specs.declared.phase.Hold.{Hold}
use Rattle.step_rules.specs.declared.phase.Hold.TheVariants.{Unheld, HeldBy, Visiting}
use Rattle.step_rules.specs.declared.phase.Way.TheVariants.{OnList}
use Rattle.step_rules.specs.declared.phase.Stage.TheVariants.{AwaitsReturn, BackAt}
use Rattle.step_rules.specs.declared.phase.Phase.{Phase}
use Rattle.step_rules.specs.declared.phase.Phase.TheVariants.{Lent}
use Rattle.step_rules.specs.declared.step.Action.{Action}
use Rattle.step_rules.specs.declared.step.Action.TheVariants.{Lock, Unlock, OpenVisit, ShutVisit, Get, Put, Freeze, Unfreeze, PassOut}
use Rattle.step_rules.specs.declared.step.Action.TheVariants.{TakeIn, PassBack, Collect, Consume, Credit, Report, Absorb, Fill, DrainStock}
use Rattle.step_rules.specs.declared.step.Action.TheVariants.{Grant, Ungrant, PlaceBlock, Return, SetMax, SetFlag, Make, Remove, Kill}
use Rattle.step_rules.specs.declared.step.Answer.{Answer}
use Rattle.step_rules.specs.declared.step.Answer.TheVariants.{Done, Held, Left, Last, Took, Stocked, Pages, Granted, Placed, Number}
use Rattle.step_rules.specs.Phases.{FreshFrame}
use Rattle.step_rules.specs.{has_as, passes_out, at_stage, stage_after_last, with_at, one_if, is_unheld, is_held_by, visits, may_zone_act, front_of}
use Rattle.step_rules.specs.{without, times, is_legal, IsAnswer, after, after_last, paid, credited, with_back, consumed, seen_by, phase_seen_by}
use Rattle.step_rules.specs.{other_part_seen, parts_seen_by, holds_lock, KeepsInvariant}
use Rattle.step_rules.specs.State.{State}
use Rattle.step_rules.proofs.LegalTests.{absorb_tests, collect_tests, consume_tests, credit_tests, drain_stock_tests, fill_tests, freeze_tests}
use Rattle.step_rules.proofs.LegalTests.{grant_tests, kill_tests, lock_tests, make_tests, open_visit_tests, pass_back_tests, pass_out_tests}
use Rattle.step_rules.proofs.LegalTests.{place_block_tests, put_tests, remove_tests, report_tests, return_tests, set_flag_tests, set_max_tests}
use Rattle.step_rules.proofs.LegalTests.{shut_visit_tests, take_in_tests, unfreeze_tests, ungrant_tests, unlock_tests}
use Rattle.step_rules.proofs.Basics.{at_each, same_state}
use Rattle.step_rules.proofs.Lists.{length_last, length_without}
use Rattle.step_rules.proofs.PhaseLemmas.{live_is, listed_is, fresh_is, equal_test}
use Rattle.step_rules.proofs.Referring.{live_from_one}
use Rattle.step_rules.proofs.Passing.{front_listed}
use Rattle.step_rules.proofs.CoverPhases.{other_fresh, other_back}
use Rattle.step_rules.proofs.CoverParts.{other_changed, other_referred}
use Rattle.step_rules.proofs.Own.{only_visit}

-- the zone's seat alone makes it
not_zone : (hold : Hold) (q : ℕ) (rest : Bool) → (q ≡ 0 → ⊥) → may_zone_act hold q ≡ true → ⊥
not_zone hold q rest ne may = ne (equal_test q 0 (and_parts (q == 0) (not (is_unheld hold)) may).0)

not_unheld : (p : ℕ) (hold : Hold) → holds_lock p hold ≡ true → is_unheld hold ≡ true → ⊥
not_unheld p Unheld holds free = false≢true holds
not_unheld p hold holds free = false≢true free

not_held : (p q : ℕ) (hold : Hold) → (q ≡ p → ⊥) → holds_lock p hold ≡ true → is_held_by q hold ≡ true → ⊥
not_held p q (HeldBy r) ne holds held = ne (sym (equal_test r q held) ∙ is_it (or_false (r == p) holds))
  where
    or_false : (b : Bool) → (b || false) ≡ true → b ≡ true
    or_false true e = refl
    or_false false e = e

    is_it : (r == p) ≡ true → r ≡ p
    is_it e = equal_test r p e
not_held p q hold ne holds held = false≢true held

-- a frame in a phase that looks the same under the cover leaves the phases there as they are
covered_phase : (p : ℕ) (phases : ℕ → Phase) (f : ℕ) (y : Phase) → phase_seen_by p y ≡ phase_seen_by p (phases f) →
    ◌≡◌ {A = ℕ → Phase} (λ m. phase_seen_by p (with_at phases f y m)) (λ m. phase_seen_by p (phases m))
covered_phase p phases f y same = λ i. λ m. at_each phases f y (λ n x. phase_seen_by p x ≡ phase_seen_by p (phases n)) same (λ n ne. refl) m i

last_hidden : (s : State) (p q f : ℕ) → KeepsInvariant s → (q ≡ 0 → ⊥) → (q ≡ p → ⊥) → 1 ≤ s.references q f → seen_by p (after_last s q f) ≡ seen_by p s
last_hidden s p q f sound ne other some =
    let is = live_is (s.phases f) (live_from_one s q f sound some) in
    let stage : stage_after_last q ≡ BackAt q = cond-false (q == 0) AwaitsReturn (BackAt q) (ne_eqb q 0 ne) in
    let same : phase_seen_by p (at_stage (stage_after_last q) (s.phases f)) ≡ phase_seen_by p (s.phases f) =
    (λ i. phase_seen_by p (at_stage (stage i) (is.1 i))) ∙ other_back is.0 p q other ∙ sym (ap (phase_seen_by p) is.1) in
    same_state s (covered_phase p s.phases f (at_stage (stage_after_last q) (s.phases f)) same)
    (other_referred p s.references q f (s.references q f - 1) ne other)
    (ap (parts_seen_by p) (cond-false (q == 0) s.parts (with_at s.parts q (with_back (s.parts q) f)) (ne_eqb q 0 ne))
    ∙ other_changed p s.parts q (with_back (s.parts q) f) other refl)

consume_hidden : (s : State) (p q g : ℕ) → KeepsInvariant s → (q ≡ p → ⊥) → 1 ≤ length (s.parts q).list → 1 ≤ (s.parts q).stock.pages →
    seen_by p (after s q (Consume g) Took) ≡ seen_by p s
consume_hidden s p q g sound other some pages =
    let f = front_of (s.parts q).list in
    let was = listed_is q (s.phases f) (front_listed s q sound some) in
    let longer = length_last f (s.parts q).fresh in
    let e : (s.parts q).stock.pages - 1 + length (paid (s.parts q)).fresh ≡ (s.parts q).stock.pages + length (s.parts q).fresh = omega arith in
    let part : other_part_seen (paid (s.parts q)) ≡ other_part_seen (s.parts q) =
    ap (λ (k : ℕ). record (other_part_seen (s.parts q)) { stock = record ((s.parts q).stock) { pages = k } }) e in
    same_state s (covered_phase p s.phases f (consumed q g) (other_fresh (record { group = g; order = 0 }) p q other
    ∙ sym (ap (phase_seen_by p) was))) refl (other_changed p s.parts q (paid (s.parts q)) other part)

credit_hidden : (s : State) (p q f : ℕ) → KeepsInvariant s → (q ≡ p → ⊥) → has_as FreshFrame q (s.phases f) ≡ true → seen_by p (after s q (Credit f) Stocked) ≡ seen_by p s
credit_hidden s p q f sound other has =
    let is = fresh_is q (s.phases f) has in
    let c : times f (s.parts q).fresh ≡ one_if (has_as FreshFrame q (s.phases f)) = sound.lists q FreshFrame f in
    let d : one_if (has_as FreshFrame q (s.phases f)) ≡ 1 = ap one_if has in
    let shorter = length_without f (s.parts q).fresh in
    let e : (s.parts q).stock.pages + 1 + length (without f (s.parts q).fresh) ≡ (s.parts q).stock.pages + length (s.parts q).fresh = omega arith in
    let part : other_part_seen (credited (s.parts q) f) ≡ other_part_seen (s.parts q) =
    ap (λ (k : ℕ). record (other_part_seen (s.parts q)) { stock = record ((s.parts q).stock) { pages = k } }) e in
    same_state s (covered_phase p s.phases f (Lent q OnList) (sym (ap (phase_seen_by p) is.1 ∙ other_fresh is.0 p q other))) refl
    (other_changed p s.parts q (credited (s.parts q) f) other part)

-- a legal step of another CPU leaves what p sees as it is
pub other_after : (s : State) (p q : ℕ) (action : Action) (answer : Answer) → KeepsInvariant s → (q ≡ 0 → ⊥) → (q ≡ p → ⊥) → holds_lock p s.hold ≡ true →
    is_legal s q action ≡ true → IsAnswer s q action answer → seen_by p (after s q action answer) ≡ seen_by p s
other_after s p q Lock Done sound ne other holds legal ok =
    let free : is_unheld s.hold ≡ true = (lock_tests s q legal).1 in
    absurd (not_unheld p s.hold holds free)
other_after s p q Unlock Done sound ne other holds legal ok =
    let held : is_held_by q s.hold ≡ true = (unlock_tests s q legal).1 in
    absurd (not_held p q s.hold other holds held)
other_after s p q (OpenVisit r) Done sound ne other holds legal ok =
    absurd (let may : may_zone_act s.hold q ≡ true = (open_visit_tests s q r legal).0 in not_zone s.hold q true ne may)
other_after s p q (ShutVisit r) Done sound ne other holds legal ok =
    absurd (let may : may_zone_act s.hold q ≡ true = (shut_visit_tests s q r legal).0 in not_zone s.hold q true ne may)
other_after s p q (Get f) Held sound ne other holds legal ok = same_state s refl (other_referred p s.references q f (s.references q f + 1) ne other) refl
other_after s p q (Put f) (Left n) sound ne other holds legal ok = same_state s refl (other_referred p s.references q f (s.references q f - 1) ne other) refl
other_after s p q (Put f) Last sound ne other holds legal ok =
    let some : nat_le 1 (s.references q f) ≡ true = (put_tests s q f legal).2 in
    last_hidden s p q f sound ne other (leb-true 1 (s.references q f) some)
other_after s p q (Freeze f n) Done sound ne other holds legal ok =
    absurd (let may : may_zone_act s.hold q ≡ true = (freeze_tests s q f n legal).0 in not_zone s.hold q true ne may)
other_after s p q (Unfreeze f n) Done sound ne other holds legal ok =
    absurd (let may : may_zone_act s.hold q ≡ true = (unfreeze_tests s q f n legal).0 in not_zone s.hold q true ne may)
other_after s p q (PassOut f r) Done sound ne other holds legal ok =
    absurd (let may : may_zone_act s.hold q ≡ true = (pass_out_tests s q f r legal).0 in not_zone s.hold q true ne may)
other_after s p q (TakeIn f) Done sound ne other holds legal ok =
    let passes : passes_out q (s.phases f) ≡ true = (take_in_tests s q f legal).2 in
    let visit : s.hold ≡ Visiting q = (sound.frames f).out q passes in
    absurd (other (only_visit p q s.hold holds (ap (visits q) visit ∙ eq-eqb q q refl)))
other_after s p q (PassBack f) Done sound ne other holds legal ok =
    absurd (let visit : visits q s.hold ≡ true = (pass_back_tests s q f legal).2 in other (only_visit p q s.hold holds visit))
other_after s p q (Collect f r) Done sound ne other holds legal ok =
    absurd (let may : may_zone_act s.hold q ≡ true = (collect_tests s q f r legal).0 in not_zone s.hold q true ne may)
other_after s p q (Consume g) Took sound ne other holds legal ok =
    let some : nat_le 1 (length (s.parts q).list) ≡ true = (consume_tests s q g legal).1 in
    consume_hidden s p q g sound other (leb-true 1 (length (s.parts q).list) some) ok.2
other_after s p q (Credit f) Stocked sound ne other holds legal ok =
    let fresh : has_as FreshFrame q (s.phases f) ≡ true = (credit_tests s q f legal).2 in
    credit_hidden s p q f sound other fresh
other_after s p q (Report n) Done sound ne other holds legal ok =
    absurd (let visit : visits q s.hold ≡ true = (report_tests s q n legal).1 in other (only_visit p q s.hold holds visit))
other_after s p q (Absorb r) (Pages n) sound ne other holds legal ok =
    absurd (let may : may_zone_act s.hold q ≡ true = (absorb_tests s q r legal).0 in not_zone s.hold q true ne may)
other_after s p q (Fill r g n) Done sound ne other holds legal ok =
    absurd (let may : may_zone_act s.hold q ≡ true = (fill_tests s q r g n legal).0 in not_zone s.hold q true ne may)
other_after s p q (DrainStock r) (Pages n) sound ne other holds legal ok =
    absurd (let may : may_zone_act s.hold q ≡ true = (drain_stock_tests s q r legal).0 in not_zone s.hold q true ne may)
other_after s p q (Grant g n) Granted sound ne other holds legal ok =
    absurd (let may : may_zone_act s.hold q ≡ true = (grant_tests s q g n legal).0 in not_zone s.hold q true ne may)
other_after s p q (Ungrant g n) Done sound ne other holds legal ok =
    absurd (let may : may_zone_act s.hold q ≡ true = (ungrant_tests s q g n legal).0 in not_zone s.hold q true ne may)
other_after s p q (PlaceBlock g k) (Placed b) sound ne other holds legal ok =
    absurd (let may : may_zone_act s.hold q ≡ true = (place_block_tests s q g k legal).0 in not_zone s.hold q true ne may)
other_after s p q (Return f) Done sound ne other holds legal ok = absurd (let may : may_zone_act s.hold q ≡ true = (return_tests s q f legal).0 in not_zone s.hold q true ne may)
other_after s p q (SetMax g limit) Done sound ne other holds legal ok =
    absurd (let may : may_zone_act s.hold q ≡ true = (set_max_tests s q g limit legal).0 in not_zone s.hold q true ne may)
other_after s p q (SetFlag g flag) Done sound ne other holds legal ok =
    absurd (let may : may_zone_act s.hold q ≡ true = (set_flag_tests s q g flag legal).0 in not_zone s.hold q true ne may)
other_after s p q (Make path) (Number n) sound ne other holds legal ok =
    absurd (let may : may_zone_act s.hold q ≡ true = (make_tests s q path legal).0 in not_zone s.hold q true ne may)
other_after s p q (Remove g) Done sound ne other holds legal ok = absurd (let may : may_zone_act s.hold q ≡ true = (remove_tests s q g legal).0 in not_zone s.hold q true ne may)
other_after s p q (Kill g) Done sound ne other holds legal ok = absurd (let may : may_zone_act s.hold q ≡ true = (kill_tests s q g legal).0 in not_zone s.hold q true ne may)
other_after s p q action answer sound ne other holds legal ok = refl
