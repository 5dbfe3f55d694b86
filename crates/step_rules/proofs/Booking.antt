-- FreshFrame and back frames, books and reports. Serves `parts_are_booked`.
use Rattle.std.proofs.Common.{◌≡◌, ℕ, ◌+◌, ◌≤◌, ◌&&◌, ◌||◌, ◌==◌, true, is_some, refl, sym, ◌∙◌, ap, subst, arith, inl, inr}
use Rattle.std.specs.Prelude.{nat_le, if◌then◌else◌}
use Rattle.std.proofs.lemmas.Bool.{and_parts, or_cases, leb-true}
use Rattle.step_rules.specs.declared.phase.Phase.{Phase}
use Rattle.step_rules.specs.declared.step.Action.{Action}
use Rattle.step_rules.specs.declared.step.Action.TheVariants.{Lock, Put, TakeIn, PassBack, Consume, Credit, Report, Absorb, Fill, DrainStock}
use Rattle.step_rules.specs.declared.step.Answer.{Answer}
use Rattle.step_rules.specs.declared.step.Answer.TheVariants.{Illegal, Done, Last, Took, Stocked, Pages}
use Rattle.step_rules.specs.Phases.{ListFrame, FreshFrame, has_as}
use Rattle.step_rules.specs.Phases as kinds
use Rattle.step_rules.specs.{Zone, Part, one_if, front_of, Allows, IsMade, is_passable, Run, after, state_of, IsLegalRun, without_frame, with_report}
use Rattle.step_rules.specs.{absorbed, paid, credited, filled, drained, units_after_run, fresh_group, unreported_in, reported_in, absorbed_in}
use Rattle.step_rules.specs.{AllPartsAreBooked}
use Rattle.step_rules.specs.State.{State}
use Rattle.step_rules.proofs.LegalTests.{pass_back_tests, report_tests}
use Rattle.step_rules.proofs.PhaseLemmas.{listed_is, fresh_is, back_is}
use Rattle.step_rules.proofs.Runs.{after_illegal, allowed, sound_run}
use Rattle.step_rules.proofs.LocalLaws.{no_illegal}
use Rattle.step_rules.proofs.Counting.{gained, lost, stayed, stayed_last}
use Rattle.step_rules.proofs.Uniting.{units_follow_the_run}
use Rattle.step_rules.proofs.Returning.{Along, counted_so_along}
use Rattle.step_rules.proofs.Few.{few_fresh, few_pins}

-- what a CPU may pass back is fresh by the run exactly where it is fresh there
sent_fresh : (p front f : ℕ) (x : Phase) → (has_as ListFrame p x && front == f || has_as FreshFrame p x || has_as kinds.BackFrame p x) ≡ true →
    is_some (fresh_group x) ≡ has_as FreshFrame p x
sent_fresh p front f x may =
    elim (or_cases (has_as ListFrame p x && front == f || has_as FreshFrame p x) (has_as kinds.BackFrame p x) may) [
      | inl first ↦ elim (or_cases (has_as ListFrame p x && front == f) (has_as FreshFrame p x) first) [
        | inl listed ↦
            let is = listed_is p x (and_parts (has_as ListFrame p x) (front == f) listed).0 in
            ap (λ y. is_some (fresh_group y)) is ∙ sym (ap (has_as FreshFrame p) is)
        | inr fresh ↦ let is = fresh_is p x fresh in ap (λ y. is_some (fresh_group y)) is.1 ∙ sym fresh
      ]
      | inr back ↦ let is = back_is p x back in ap (λ y. is_some (fresh_group y)) is.1 ∙ sym (ap (has_as FreshFrame p) is.1)
    ]

-- where a made step changes a number of a part by what it counts in and out, and an illegal one counts nothing, so does each
allowed_so : (T : Part → ℕ) (p : ℕ) (gain loss : Along) →
    ((run : Run) (seat : ℕ) (action : Action) → (gain run seat action Illegal ≡ 0) × (loss run seat action Illegal ≡ 0)) →
    ((zone : Zone) (run : Run) (seat : ℕ) (action : Action) (answer : Answer) → IsLegalRun zone run → IsMade (state_of zone run) seat action answer →
    T ((state_of zone run).parts p) + gain run seat action answer ≡ T ((after (state_of zone run) seat action answer).parts p) + loss run seat action answer) →
    (zone : Zone) (run : Run) (seat : ℕ) (action : Action) (answer : Answer) → IsLegalRun zone run → Allows (state_of zone run) seat action answer →
    T ((state_of zone run).parts p) + gain run seat action answer ≡ T ((after (state_of zone run) seat action answer).parts p) + loss run seat action answer
allowed_so T p gain loss none made zone run seat action answer legal ok =
    let s = state_of zone run in
    elim (allowed s seat action answer ok) [
      | inl illegal ↦ subst (λ (a : Answer). T (s.parts p) + gain run seat action a ≡ T ((after s seat action a).parts p) + loss run seat action a)
          (sym illegal)
          (let both = none run seat action in
          let a = both.0 in
          let b = both.1 in
          let c : T ((after s seat action Illegal).parts p) ≡ T (s.parts p) = ap (λ (t : State). T (t.parts p)) (after_illegal s seat action) in
          omega arith)
      | inr is ↦ made zone run seat action answer legal is
    ]

-- ---- unreported pages
abbrev unreported : Part → ℕ
unreported part = part.unreported

no_unreported : (p : ℕ) (run : Run) (seat : ℕ) (action : Action) → (unreported_in p run seat action Illegal ≡ 0) × (reported_in p run seat action Illegal ≡ 0)
no_unreported p run seat Lock = (refl, refl)
no_unreported p run seat action = (refl, refl)

unreported_made : (p : ℕ) (zone : Zone) (run : Run) (seat : ℕ) (action : Action) (answer : Answer) → IsLegalRun zone run →
    IsMade (state_of zone run) seat action answer →
    unreported ((state_of zone run).parts p) + unreported_in p run seat action answer
    ≡ unreported ((after (state_of zone run) seat action answer).parts p) + reported_in p run seat action answer
unreported_made p zone run seat action Illegal legal made = absurd (no_illegal (state_of zone run) seat action made.answered)
unreported_made p zone run seat (Put f) Last legal made = stayed_last unreported (state_of zone run).parts seat p f refl
unreported_made p zone run seat (TakeIn f) Done legal made = stayed unreported (state_of zone run).parts seat p _ refl
unreported_made p zone run seat (PassBack f) Done legal made =
    let s = state_of zone run in
    let ok = made.legal in
    let may : is_passable s seat f ≡ true = (pass_back_tests (state_of zone run) seat f ok).3 in
    let same : is_some ((units_after_run run).fresh_for f) ≡ has_as FreshFrame seat (s.phases f) =
    ap is_some (sym (units_follow_the_run zone run legal f).fresh) ∙ sent_fresh seat (front_of (s.parts seat).list) f (s.phases f) may in
    ap (λ b. unreported (s.parts p) + (if seat == p then one_if b else 0)) same
    ∙ gained unreported s.parts seat p (without_frame (s.parts seat) (s.phases f) seat f) (one_if (has_as FreshFrame seat (s.phases f))) refl
unreported_made p zone run seat (Consume g) Took legal made = stayed unreported (state_of zone run).parts seat p (paid ((state_of zone run).parts seat)) refl
unreported_made p zone run seat (Credit f) Stocked legal made =
    stayed unreported (state_of zone run).parts seat p (credited ((state_of zone run).parts seat) f) refl
unreported_made p zone run seat (Report n) Done legal made =
    let s = state_of zone run in
    let ok = made.legal in
    let some : nat_le n (s.parts seat).unreported ≡ true = (report_tests (state_of zone run) seat n ok).2 in
    let few : n ≤ (s.parts seat).unreported = leb-true n (s.parts seat).unreported some in
    lost unreported s.parts seat p (with_report (s.parts seat) n) n (omega arith)
unreported_made p zone run seat (Absorb q) (Pages n) legal made = stayed unreported (state_of zone run).parts q p (absorbed ((state_of zone run).parts q) n) refl
unreported_made p zone run seat (Fill q g n) Done legal made = stayed unreported (state_of zone run).parts q p (filled ((state_of zone run).parts q) g n) refl
unreported_made p zone run seat (DrainStock q) (Pages n) legal made = stayed unreported (state_of zone run).parts q p (drained ((state_of zone run).parts q) n) refl
unreported_made p zone run seat Lock answer legal made = refl
unreported_made p zone run seat action answer legal made = refl

-- ---- reported pages
abbrev reported : Part → ℕ
reported part = part.reported

no_reported : (p : ℕ) (run : Run) (seat : ℕ) (action : Action) → (reported_in p run seat action Illegal ≡ 0) × (absorbed_in p run seat action Illegal ≡ 0)
no_reported p run seat Lock = (refl, refl)
no_reported p run seat action = (refl, refl)

reported_made : (p : ℕ) (zone : Zone) (run : Run) (seat : ℕ) (action : Action) (answer : Answer) → IsLegalRun zone run →
    IsMade (state_of zone run) seat action answer →
    reported ((state_of zone run).parts p) + reported_in p run seat action answer
    ≡ reported ((after (state_of zone run) seat action answer).parts p) + absorbed_in p run seat action answer
reported_made p zone run seat action Illegal legal made = absurd (no_illegal (state_of zone run) seat action made.answered)
reported_made p zone run seat (Put f) Last legal made = stayed_last reported (state_of zone run).parts seat p f refl
reported_made p zone run seat (TakeIn f) Done legal made = stayed reported (state_of zone run).parts seat p _ refl
reported_made p zone run seat (PassBack f) Done legal made =
    stayed reported (state_of zone run).parts seat p (without_frame ((state_of zone run).parts seat) ((state_of zone run).phases f) seat f) refl
reported_made p zone run seat (Consume g) Took legal made = stayed reported (state_of zone run).parts seat p (paid ((state_of zone run).parts seat)) refl
reported_made p zone run seat (Credit f) Stocked legal made =
    stayed reported (state_of zone run).parts seat p (credited ((state_of zone run).parts seat) f) refl
reported_made p zone run seat (Report n) Done legal made =
    gained reported (state_of zone run).parts seat p (with_report ((state_of zone run).parts seat) n) n refl
reported_made p zone run seat (Absorb q) (Pages n) legal made =
    let s = state_of zone run in
    let all : n ≡ (s.parts q).reported = made.answered in
    lost reported s.parts q p (absorbed (s.parts q) n) n (omega arith)
reported_made p zone run seat (Fill q g n) Done legal made = stayed reported (state_of zone run).parts q p (filled ((state_of zone run).parts q) g n) refl
reported_made p zone run seat (DrainStock q) (Pages n) legal made = stayed reported (state_of zone run).parts q p (drained ((state_of zone run).parts q) n) refl
reported_made p zone run seat Lock answer legal made = refl
reported_made p zone run seat action answer legal made = refl

pub parts_are_booked : AllPartsAreBooked
parts_are_booked zone run legal p =
    let s = state_of zone run in
    let sound = sound_run zone run legal in
    record {
      fresh = λ f. sound.lists p FreshFrame f;
      back = λ f. sound.lists p kinds.BackFrame f;
      book = sound.booked p;
      unreported = counted_so_along (unreported_in p) (reported_in p) (λ t. unreported (t.parts p)) zone refl
          (λ before seat action answer legal ok. allowed_so unreported p (unreported_in p) (reported_in p) (no_unreported p) (unreported_made p)
          zone before seat action answer legal ok) run legal;
      reported = counted_so_along (reported_in p) (absorbed_in p) (λ t. reported (t.parts p)) zone refl
          (λ before seat action answer legal ok. allowed_so reported p (reported_in p) (absorbed_in p) (no_reported p) (reported_made p)
          zone before seat action answer legal ok) run legal;
      few_fresh = few_fresh zone run legal p;
      few_pins = few_pins zone run legal p;
    }
