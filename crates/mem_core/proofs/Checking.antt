-- A checker takes a step, and what follows of the log so far (for `Checker` and `check`).
use Rattle.std.proofs.Common.{◌≡◌, ℕ, ◌+◌, ◌^◌, ◌<◌, ◌≤◌, ◌↔◌, Bool, true, false, Some, [], ◌∷◌, ◌++◌, length, take, get_or, refl, sym, ◌∙◌}
use Rattle.std.proofs.Common.{ap, subst}
use Rattle.std.specs.Prelude.{IfSome}
use Rattle.std.proofs.lemmas.Bool.{false≢true}
use Rattle.std.proofs.lemmas.List.{take_more, take_all}
use Rattle.std.proofs.lemmas.Option.{slice_get-get_or}
use Rattle.step_rules.specs.declared.step.Step.{Step}
use Rattle.step_rules.specs.declared.step.Answer.{Answer}
use Rattle.step_rules.specs.{Zone, Allows, Run, after, state_of, IsLegalRun, KeepsInvariant, IsHomed}
use Rattle.step_rules.specs.State.{State}
use Rattle.step_rules.proofs.Keeping.{homes_allowed}
use Rattle.step_rules.proofs.Placed.{zone_kept}
use Rattle.step_rules.proofs.Runs.{one_more, state_more, legal_more}
use Rattle.mem_core.specs.{pages_asked, IsBounded, CoreState, state_shown, Leads, IsFirstIllegal, IsVerdict}
use Rattle.mem_core.specs.declared.verdict.Verdict.{Verdict}
use Rattle.mem_core.specs.declared.verdict.Verdict.TheVariants.{Legal, IllegalAt}
use Rattle.mem_core.proofs.Advancing.{sound_after, bounded_after}

-- what a step keeps of a sound state, bounded by n pages
pub record Kept (n : ℕ) (s t : State) : Type 0 where
  pub sound : KeepsInvariant t
  pub homed : IsHomed t
  pub bounded : IsBounded (n + 2 ^ 32) t
  pub zone : t.zone ≡ s.zone

pub kept : (n : ℕ) (s t : State) (step : Step) (made : Answer) → KeepsInvariant s → IsHomed s → IsBounded n s → pages_asked step.action < 2 ^ 32
    → Leads s step made t → Kept n s t
kept n s t step made sound homed bounded small leads = record {
  sound = subst KeepsInvariant (sym leads.state) (sound_after s step.seat step.action made sound leads.allowed);
  homed = subst IsHomed (sym leads.state) (homes_allowed s step.seat step.action made sound homed leads.allowed);
  bounded = subst (IsBounded (n + 2 ^ 32)) (sym leads.state) (bounded_after n s step.seat step.action made sound bounded leads.allowed small);
  zone = ap (λ (x : State). x.zone) leads.state ∙ zone_kept s step.seat step.action made;
}

-- the first k steps of the log are a legal run, and led here
pub record Follows (zone : Zone) (s : CoreState) (log : Run) (k : ℕ) : Type 0 where
  pub steps : s.steps ≡ k
  pub legal : IsLegalRun zone (take k log)
  pub state : state_shown s ≡ state_of zone (take k log)

-- with the next step of the log
taken : (log : Run) (k : ℕ) (e : Step × Answer) → k < length log → e ≡ get_or log k e → take (k + 1) log ≡ one_more (take k log) e.0 e.1
taken log k e h is = take_more log k e h ∙ ap (λ (x : Step × Answer). take k log ++ x ∷ []) (sym is)

pub follows_on : (zone : Zone) (s t : CoreState) (log : Run) (k : ℕ) (e : Step × Answer) → k < length log → e ≡ get_or log k e → Follows zone s log k
    → Leads (state_shown s) e.0 e.1 (state_shown t) → t.steps ≡ s.steps + 1 → Follows zone t log (k + 1)
follows_on zone s t log k e h is so_far leads one =
    let more = taken log k e h is in
    let here : Allows (state_of zone (take k log)) e.0.seat e.0.action e.1 =
    subst (λ (x : State). Allows x e.0.seat e.0.action e.1) so_far.state leads.allowed in
    record {
      steps = one ∙ ap (λ n. n + 1) so_far.steps;
      legal = subst (IsLegalRun zone) (sym more) (legal_more zone (take k log) e.0 e.1 so_far.legal here);
      state = leads.state ∙ ap (λ (x : State). after x e.0.seat e.0.action e.1) so_far.state ∙ sym (state_more zone (take k log) e.0 e.1)
          ∙ ap (state_of zone) (sym more);
    }

pub first_illegal : (zone : Zone) (s : CoreState) (log : Run) (k : ℕ) (e : Step × Answer) (expected : Answer) → k < length log → e ≡ get_or log k e
    → Follows zone s log k → ¬ Allows (state_shown s) e.0.seat e.0.action e.1 → Allows (state_shown s) e.0.seat e.0.action expected
    → IsFirstIllegal zone log k expected
first_illegal zone s log k e expected h is so_far denied allowed = record {
  before = so_far.legal;
  step = e.0;
  answer = e.1;
  there = slice_get-get_or log k e h ∙ ap Some (sym is);
  denied = subst (λ (x : State). ¬ Allows x e.0.seat e.0.action e.1) so_far.state denied;
  allowed = subst (λ (x : State). Allows x e.0.seat e.0.action expected) so_far.state allowed;
}

pub all_legal : (zone : Zone) (s : CoreState) (log : Run) (k : ℕ) → length log ≤ k → Follows zone s log k → IsLegalRun zone log
all_legal zone s log k h so_far = subst (IsLegalRun zone) (take_all k log h) so_far.legal

not_legal : (zone : Zone) (log : Run) (k : ℕ) (expected : Answer) → IsFirstIllegal zone log k expected → IsLegalRun zone log → ⊥
not_legal zone log k expected first legal =
    first.denied (subst (λ o. IfSome o (λ e. Allows (state_of zone (take k log)) e.0.seat e.0.action e.1)) first.there (legal k))

abbrev says_legal : Verdict → Bool
says_legal Legal = true
says_legal (IllegalAt index expected) = false

-- a verdict says whether the log is a legal run
pub says_of_log : (zone : Zone) (log : Run) (verdict : Verdict) → IsVerdict zone log verdict → (verdict ≡ Legal) ↔ IsLegalRun zone log
says_of_log zone log Legal legal = (λ same. legal, λ _. refl)
says_of_log zone log (IllegalAt index expected) first = (
  λ e. absurd (false≢true (ap says_legal e)),
  λ legal. absurd (not_legal zone log index expected first legal),
)
