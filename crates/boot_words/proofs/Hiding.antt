-- A fast step is hidden from others.
use Rattle.std.proofs.Common.{◌≡◌, ◌≢◌, ℕ, ◌+◌, ◌-◌, ◌≤◌, ◌==◌, Bool, true, false, length, cond, refl, sym, ap, ◌∙◌, subst, arith, inl, inr}
use Rattle.std.specs.Prelude.{nat_le}
use Rattle.std.proofs.lemmas.Bool.{cases_eq, ne_eqb, leb-true, cond-false}
use Rattle.step_rules.specs.declared.phase.Way.TheVariants.{OnList}
use Rattle.step_rules.specs.declared.phase.Stage.TheVariants.{AwaitsReturn, BackAt}
use Rattle.step_rules.specs.declared.phase.Phase.{Phase}
use Rattle.step_rules.specs.declared.phase.Phase.TheVariants.{Lent}
use Rattle.step_rules.specs.declared.step.Action.{Action}
use Rattle.step_rules.specs.declared.step.Action.TheVariants.{Get, Put, Consume, Credit}
use Rattle.step_rules.specs.declared.step.Answer.{Answer}
use Rattle.step_rules.specs.declared.step.Answer.TheVariants.{Held, Left, Last, Took, Stocked}
use Rattle.step_rules.specs.Phases.{FreshFrame}
use Rattle.step_rules.specs.{has_as, at_stage, stage_after_last, Part, with_at, one_if, front_of, without, times, is_legal, IsAnswer, after}
use Rattle.step_rules.specs.{after_last, state_of, paid, credited, with_back, consumed, seen_by, other_part_seen, KeepsInvariant}
use Rattle.step_rules.specs.State.{State}
use Rattle.step_rules.proofs.Basics.{at_each, at_other, same_state}
use Rattle.step_rules.proofs.LegalTests.{consume_tests, credit_tests, put_tests}
use Rattle.step_rules.proofs.Lists.{length_last, length_without}
use Rattle.step_rules.proofs.Passing.{front_listed}
use Rattle.step_rules.proofs.PhaseLemmas.{live_is, listed_is, fresh_is}
use Rattle.step_rules.proofs.Referring.{changed, live_from_one}
use Rattle.step_rules.proofs.Runs.{after_illegal, allowed, legal_more, sound_run, state_more}
use Rattle.boot_words.specs.{IsFast, hide, hide_phase, show_own, zone_references, FastIsHidden}
use Rattle.boot_words.proofs.Showing.{sees_both}

-- a frame in a phase that looks the same if it is hidden leaves the hidden phases as they are
hidden_phases : (phases : ℕ → Phase) (f : ℕ) (y : Phase) → hide_phase y ≡ hide_phase (phases f) →
    ◌≡◌ {A = ℕ → Phase} (λ m. hide_phase (with_at phases f y m)) (λ m. hide_phase (phases m))
hidden_phases phases f y same = λ i. λ m. at_each phases f y (λ n x. hide_phase x ≡ hide_phase (phases n)) same (λ n ne. refl) m i

hidden_parts : (parts : ℕ → Part) (q : ℕ) (part : Part) → other_part_seen part ≡ other_part_seen (parts q) →
    ◌≡◌ {A = ℕ → Part} (λ m. other_part_seen (with_at parts q part m)) (λ m. other_part_seen (parts m))
hidden_parts parts q part same = λ i. λ m. at_each parts q part (λ n x. other_part_seen x ≡ other_part_seen (parts n)) same (λ n ne. refl) m i

hidden_references : (references : ℕ → ℕ → ℕ) (q f n : ℕ) → q ≢ 0 → zone_references (changed references q f n) ≡ zone_references references
hidden_references references q f n ne = λ i. λ k. λ m. at k m i
  where
    off : (k m : ℕ) → (k == 0) ≡ false → cond (k == 0) (changed references q f n k m) 0 ≡ cond (k == 0) (references k m) 0
    off k m e = ap (λ b. cond b (changed references q f n k m) 0) e ∙ sym (ap (λ b. cond b (references k m) 0) e)

    at : (k m : ℕ) → zone_references (changed references q f n) k m ≡ zone_references references k m
    at k m = elim (cases_eq k q) [
      | inl e ↦ off k m (ne_eqb k 0 (λ z. ne (sym e ∙ z)))
      | inr other ↦ ap (λ (r : ℕ → ℕ). cond (k == 0) (r m) 0) (at_other references q (with_at (references q) f n) k other)
    ]

last_hides : (s : State) (q f : ℕ) → KeepsInvariant s → q ≢ 0 → 1 ≤ s.references q f → hide (after_last s q f) ≡ hide s
last_hides s q f sound ne some =
    let is = live_is (s.phases f) (live_from_one s q f sound some) in
    let stage : stage_after_last q ≡ BackAt q = cond-false (q == 0) AwaitsReturn (BackAt q) (ne_eqb q 0 ne) in
    let same : hide_phase (at_stage (stage_after_last q) (s.phases f)) ≡ hide_phase (s.phases f) =
    (λ i. hide_phase (at_stage (stage i) (is.1 i))) ∙ sym (ap hide_phase is.1) in
    same_state s (hidden_phases s.phases f (at_stage (stage_after_last q) (s.phases f)) same)
    (hidden_references s.references q f (s.references q f - 1) ne)
    (ap (λ (parts : ℕ → Part). (λ (m : ℕ). other_part_seen (parts m))) (cond-false (q == 0) s.parts (with_at s.parts q (with_back (s.parts q) f)) (ne_eqb q 0 ne))
    ∙ hidden_parts s.parts q (with_back (s.parts q) f) refl)

consume_hides : (s : State) (q g : ℕ) → KeepsInvariant s → 1 ≤ length (s.parts q).list → 1 ≤ (s.parts q).stock.pages → hide (after s q (Consume g) Took) ≡ hide s
consume_hides s q g sound some pages =
    let f = front_of (s.parts q).list in
    let was = listed_is q (s.phases f) (front_listed s q sound some) in
    let longer = length_last f (s.parts q).fresh in
    let e : (s.parts q).stock.pages - 1 + length (paid (s.parts q)).fresh ≡ (s.parts q).stock.pages + length (s.parts q).fresh = omega arith in
    let part : other_part_seen (paid (s.parts q)) ≡ other_part_seen (s.parts q) =
    ap (λ (k : ℕ). record (other_part_seen (s.parts q)) { stock = record ((s.parts q).stock) { pages = k } }) e in
    same_state s (hidden_phases s.phases f (consumed q g) (sym (ap hide_phase was))) refl (hidden_parts s.parts q (paid (s.parts q)) part)

credit_hides : (s : State) (q f : ℕ) → KeepsInvariant s → has_as FreshFrame q (s.phases f) ≡ true → hide (after s q (Credit f) Stocked) ≡ hide s
credit_hides s q f sound has =
    let is = fresh_is q (s.phases f) has in
    let c : times f (s.parts q).fresh ≡ one_if (has_as FreshFrame q (s.phases f)) = sound.lists q FreshFrame f in
    let d : one_if (has_as FreshFrame q (s.phases f)) ≡ 1 = ap one_if has in
    let shorter = length_without f (s.parts q).fresh in
    let e : (s.parts q).stock.pages + 1 + length (without f (s.parts q).fresh) ≡ (s.parts q).stock.pages + length (s.parts q).fresh = omega arith in
    let part : other_part_seen (credited (s.parts q) f) ≡ other_part_seen (s.parts q) =
    ap (λ (k : ℕ). record (other_part_seen (s.parts q)) { stock = record ((s.parts q).stock) { pages = k } }) e in
    same_state s (hidden_phases s.phases f (Lent q OnList) (sym (ap hide_phase is.1))) refl
    (hidden_parts s.parts q (credited (s.parts q) f) part)

fast_hides : (s : State) (q : ℕ) (action : Action) (answer : Answer) → KeepsInvariant s → q ≢ 0 → IsFast action
    → is_legal s q action ≡ true → IsAnswer s q action answer → hide (after s q action answer) ≡ hide s
fast_hides s q (Get f) Held sound ne fast legal ok = same_state s refl (hidden_references s.references q f (s.references q f + 1) ne) refl
fast_hides s q (Put f) (Left n) sound ne fast legal ok = same_state s refl (hidden_references s.references q f (s.references q f - 1) ne) refl
fast_hides s q (Put f) Last sound ne fast legal ok =
    let some : nat_le 1 (s.references q f) ≡ true = (put_tests s q f legal).2 in
    last_hides s q f sound ne (leb-true 1 (s.references q f) some)
fast_hides s q (Consume g) Took sound ne fast legal ok =
    let some : nat_le 1 (length (s.parts q).list) ≡ true = (consume_tests s q g legal).1 in
    consume_hides s q g sound (leb-true 1 (length (s.parts q).list) some) ok.2
fast_hides s q (Credit f) Stocked sound ne fast legal ok =
    let fresh : has_as FreshFrame q (s.phases f) ≡ true = (credit_tests s q f legal).2 in
    credit_hides s q f sound fresh
fast_hides s q (Get f) answer sound ne fast legal ok = refl
fast_hides s q (Put f) answer sound ne fast legal ok = refl
fast_hides s q (Consume g) answer sound ne fast legal ok = refl
fast_hides s q (Credit f) answer sound ne fast legal ok = refl
fast_hides s q action answer sound ne fast legal ok = absurd fast

-- a fast step leaves the parts and references of others as they are
fast_keeps : (s : State) (q p : ℕ) (action : Action) (answer : Answer) → q ≢ p → IsFast action
    → ((after s q action answer).parts p ≡ s.parts p) × ((after s q action answer).references p ≡ s.references p)
fast_keeps s q p (Get f) Held ne fast = (refl, at_other s.references q _ p (λ e. ne (sym e)))
fast_keeps s q p (Put f) (Left n) ne fast = (refl, at_other s.references q _ p (λ e. ne (sym e)))
fast_keeps s q p (Put f) Last ne fast = (by_seat (q == 0), at_other s.references q _ p (λ e. ne (sym e)))
  where
    by_seat : (b : Bool) → (cond b s.parts (with_at s.parts q (with_back (s.parts q) f))) p ≡ s.parts p
    by_seat true = refl
    by_seat false = at_other s.parts q _ p (λ e. ne (sym e))
fast_keeps s q p (Consume g) Took ne fast = (at_other s.parts q _ p (λ e. ne (sym e)), refl)
fast_keeps s q p (Credit f) Stocked ne fast = (at_other s.parts q _ p (λ e. ne (sym e)), refl)
fast_keeps s q p (Get f) answer ne fast = (refl, refl)
fast_keeps s q p (Put f) answer ne fast = (refl, refl)
fast_keeps s q p (Consume g) answer ne fast = (refl, refl)
fast_keeps s q p (Credit f) answer ne fast = (refl, refl)
fast_keeps s q p action answer ne fast = absurd fast

pub fast_is_hidden : FastIsHidden
fast_is_hidden zone run cpu step answer legal ne other fast ok =
    let s = state_of zone run in
    let q = step.seat in
    let t = after s q step.action answer in
    let sound = sound_run zone run legal in
    let more = state_more zone run step answer in
    let later : KeepsInvariant t = subst KeepsInvariant more (sound_run zone _ (legal_more zone run step answer legal ok)) in
    let hidden : hide t ≡ hide s = elim (allowed s q step.action answer ok) [
      | inl illegal ↦ ap hide (ap (after s q step.action) illegal ∙ after_illegal s q step.action)
      | inr made ↦ fast_hides s q step.action answer sound ne fast made.legal made.answered
    ] in
    let own = fast_keeps s q cpu step.action answer other fast in
    record {
      to_cpu = ap (seen_by cpu) more ∙ sees_both t cpu later ∙ (λ i. show_own cpu (own.0 i) (own.1 i) (hidden i)) ∙ sym (sees_both s cpu sound);
      hidden = ap hide more ∙ hidden;
    }
