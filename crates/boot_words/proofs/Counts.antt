-- A seat's references are its own, and a get of a frame that the seat has is never answered Zero.
use Rattle.std.proofs.Common.{[], ◌≡◌, ◌≢◌, ℕ, zero, suc, ◌≤◌, ◌&&◌, true, false, ◌∷◌, ◌++◌, length, refl, ap, sym, ◌∙◌, subst, arith, inl, inr}
use Rattle.std.specs.Prelude.{not}
use Rattle.std.specs.List.{fold}
use Rattle.std.proofs.lemmas.Bool.{cases_Bool, ne_eqb, true≢false}
use mathlib.Core.Logic.{dite}
use native.Mathlib.Decide.{ℕ_discrete}
use Rattle.step_rules.specs.declared.step.Action.{Action}
use Rattle.step_rules.specs.declared.step.Action.TheVariants.{Get, Put, Freeze, Unfreeze, Lock}
use Rattle.step_rules.specs.declared.step.Answer.{Answer}
use Rattle.step_rules.specs.declared.step.Answer.TheVariants.{Illegal, Done, Full, Held, Left, Last, Zero}
use Rattle.step_rules.specs.{is_live_phase, Zone, at_boot, is_unheld, live_references, may_zone_act, Allows, IsMade, get_answer, LiveIsReferenced}
use Rattle.step_rules.specs.{Run, after, state_of, IsLegalRun}
use Rattle.step_rules.specs.State.{State}
use Rattle.step_rules.specs.declared.step.Step.{Step}
use Rattle.step_rules.proofs.Living.{live_are_referenced}
use Rattle.boot_words.specs.{own_past, zone_of_boot, HasNoStepOf, OthersFollow, NeverZero}
use Rattle.boot_words.proofs.WordCounts.{held_answer}
use Rattle.boot_words.proofs.Holding.{allowed_at, take_length}
use Rattle.step_rules.proofs.Basics.{at_other}
use Rattle.step_rules.proofs.LegalTests.{freeze_tests, unfreeze_tests}
use Rattle.step_rules.proofs.LocalLaws.{no_illegal}
use Rattle.step_rules.proofs.Runs.{after_illegal, allowed, legal_from, next, IsLegalFrom}
use Rattle.boot_words.proofs.Draining.{legal_behind}
use Rattle.boot_words.proofs.Owning.{fold_on, lists_are_own}

-- ---- a seat's references
no_zone : (s : State) (q : ℕ) → q ≢ 0 → may_zone_act s.hold q ≡ true → ⊥
no_zone s q ne acts = true≢false (sym acts ∙ ap (λ b. b && not (is_unheld s.hold)) (ne_eqb q 0 ne))

zone_step : (s : State) (q : ℕ) (action : Action) (answer : Answer) → q ≢ 0 → IsMade s q action answer → (after s q action answer).references 0 ≡ s.references 0
zone_step s q action Illegal ne made = absurd (no_illegal s q action made.answered)
zone_step s q (Get f) Held ne made = at_other s.references q _ 0 (λ e. ne (sym e))
zone_step s q (Put f) (Left n) ne made = at_other s.references q _ 0 (λ e. ne (sym e))
zone_step s q (Put f) Last ne made = at_other s.references q _ 0 (λ e. ne (sym e))
zone_step s q (Freeze f n) Done ne made = absurd (no_zone s q ne (freeze_tests s q f n made.legal).0)
zone_step s q (Unfreeze f n) Done ne made = absurd (no_zone s q ne (unfreeze_tests s q f n made.legal).0)
zone_step s q Lock answer ne made = refl
zone_step s q action answer ne made = refl

zone_one : (s : State) (q : ℕ) (action : Action) (answer : Answer) → q ≢ 0 → Allows s q action answer → (after s q action answer).references 0 ≡ s.references 0
zone_one s q action answer ne ok = elim (allowed s q action answer ok) [
  | inl illegal ↦ ap (λ (t : State). t.references 0) (ap (after s q action) illegal ∙ after_illegal s q action)
  | inr made ↦ zone_step s q action answer ne made
]

zone_rest : (s : State) (rest : Run) → IsLegalFrom s rest → HasNoStepOf 0 rest → (fold next s rest).references 0 ≡ s.references 0
zone_rest s [] legal none = refl
zone_rest s (e ∷ rest) legal none = zone_rest (next s e) rest (λ k. legal (suc k)) none.1 ∙ zone_one s e.0.seat e.0.action e.1 none.0 (legal zero)

zone_own : (zone : Zone) (seen run : Run) → IsLegalRun zone run → OthersFollow 0 seen run → (state_of zone run).references 0 ≡ (state_of zone seen).references 0
zone_own zone seen run legal goes =
    ap (λ r. (state_of zone r).references 0) goes.is ∙ ap (λ (t : State). t.references 0) (fold_on (at_boot zone) seen goes.rest)
    ∙ zone_rest (state_of zone seen) goes.rest (legal_behind (at_boot zone) seen goes.rest (subst (IsLegalRun zone) goes.is legal)) goes.others

-- others' steps leave the references that a seat's past left it
pub references_are_own : (zone : Zone) (seen run : Run) (seat : ℕ) → IsLegalRun zone run → OthersFollow seat seen run
    → (state_of zone run).references seat ≡ (state_of zone seen).references seat
references_are_own zone seen run seat legal goes = dite (ℕ_discrete seat 0)
    (λ e. subst (λ (k : ℕ). OthersFollow k seen run → (state_of zone run).references k ≡ (state_of zone seen).references k) (sym e) (zone_own zone seen run legal) goes)
    (λ ne. (lists_are_own zone seen run seat ne goes).references)

-- ---- a get that is answered Zero
full_word : (n : ℕ) → n ≡ 255 → Zero ≡ get_answer n → ⊥
full_word n e z = let a : Zero ≡ Full = z ∙ ap get_answer e in cc

held_word : (n : ℕ) → 1 ≤ n → n ≤ 254 → Zero ≡ get_answer n → ⊥
held_word n low high z = let a : Zero ≡ Held = z ∙ held_answer n low high in cc

not_live : (s : State) (f : ℕ) → LiveIsReferenced s f → Zero ≡ get_answer (live_references s f) → is_live_phase (s.phases f) ≡ false
not_live s f is said = elim (cases_Bool (is_live_phase (s.phases f))) [
  | inl live ↦
      let range = is.some live in
      dite (ℕ_discrete (live_references s f) 255) (λ e. absurd (full_word (live_references s f) e said))
      (λ ne. absurd (held_word (live_references s f) range.0 (let a = range.1 in omega (arith, a, ne)) said))
  | inr dead ↦ dead
]

pub never_zero : NeverZero
never_zero t s f s' is m =
    let zone = zone_of_boot t in
    let p = own_past s in
    let q = p.number in
    let before = p.seen ++ m.grew.between in
    let e : Step × Answer = (record { seat = q; action = Get f }, Zero) in
    let whole : IsLegalRun zone (before ++ e ∷ []) = subst (IsLegalRun zone) m.grew.seen m.is_past.legal in
    let legal : IsLegalRun zone before = subst (IsLegalRun zone) (take_length before (e ∷ [])) (legal_from zone (before ++ e ∷ []) (length before) whole) in
    let made = allowed_at zone before e [] whole in
    let dead = not_live (state_of zone before) f (live_are_referenced zone before legal f) made.counted in
    let own = references_are_own zone p.seen before q legal (record { rest = m.grew.between; is = refl; others = m.grew.others }) in
    sym (ap (λ h. h f) own) ∙ (live_are_referenced zone before legal f).none dead q
