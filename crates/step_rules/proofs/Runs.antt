-- What holds of the state after every legal run, and one more step.
use Rattle.std.proofs.Common.{◌≡◌, ℕ, ◌<◌, Some, List, [], ◌∷◌, ◌++◌, length, take, refl, sym, ◌∙◌, ap, subst, arith, inl, inr, zero, suc, length-append}
use Rattle.std.specs.Prelude.{◌⊎◌, IfSome}
use Rattle.std.specs.List.{fold, slice_get}
use Rattle.std.proofs.lemmas.Bool.{cases_lt, cases_eq, false≢true}
use Rattle.std.proofs.lemmas.List.{take-append-le, take_at}
use Rattle.std.proofs.lemmas.List.Sums.{fold_push}
use Rattle.std.proofs.lemmas.Option.{slice_get_past}
use Rattle.step_rules.specs.declared.step.Step.{Step}
use Rattle.step_rules.specs.declared.step.Action.{Action}
use Rattle.step_rules.specs.declared.step.Action.TheVariants.{Lock}
use Rattle.step_rules.specs.declared.step.Answer.{Answer}
use Rattle.step_rules.specs.declared.step.Answer.TheVariants.{Illegal}
use Rattle.step_rules.specs.{Zone, at_boot, frames_of, no_part, times, Allows, IsMade, Run, after, state_of, IsLegalRun, KeepsInvariant}
use Rattle.step_rules.specs.State.{State}
use Rattle.step_rules.proofs.PhaseLemmas.{by_kind, none_some}
use Rattle.step_rules.proofs.SoundSteps.{sound_step}

-- an illegal step changes nothing
pub after_illegal : (s : State) (seat : ℕ) (action : Action) → after s seat action Illegal ≡ s
after_illegal s seat Lock = refl
after_illegal s seat action = refl

-- an allowed step is made, or is illegal
pub allowed : (s : State) (seat : ℕ) (action : Action) (answer : Answer) → Allows s seat action answer → (answer ≡ Illegal) ⊎ IsMade s seat action answer
allowed s seat action Illegal ok = inl refl
allowed s seat action answer ok = inr ok

pub sound_allowed : (s : State) (seat : ℕ) (action : Action) (answer : Answer) → KeepsInvariant s → Allows s seat action answer → KeepsInvariant (after s seat action answer)
sound_allowed s seat action answer sound ok =
    elim (allowed s seat action answer ok) [
      | inl illegal ↦ subst KeepsInvariant (sym (ap (after s seat action) illegal ∙ after_illegal s seat action)) sound
      | inr made ↦ sound_step s seat action answer sound made.legal made.answered made.counted
    ]

-- nothing stands anywhere at first
pub sound_boot : (zone : Zone) → KeepsInvariant (at_boot zone)
sound_boot zone = record {
  frames = λ f. record {
    out = λ q e. absurd (false≢true e);
    returning = λ q e. absurd (false≢true e);
    unreferred = λ dead seat. refl;
    seats = λ seat beyond. refl;
    paid = tt;
    inside = λ beyond. refl;
  };
  lists = λ q kind f. by_kind (λ k. times f (frames_of no_part k) ≡ 0) refl refl refl kind;
  units = λ f unit e. absurd (none_some unit e);
  booked = λ q. refl;
}

-- one more pair with its answer
abbrev pub next : State → Step × Answer → State
next s e = after s e.0.seat e.0.action e.1

-- each answer of the run is allowed where it starts in this state
abbrev pub IsLegalFrom : State → Run → Type 0
IsLegalFrom s run = (k : ℕ) → IfSome (slice_get run k) (λ e. Allows (fold next s (take k run)) e.0.seat e.0.action e.1)

-- what each allowed step keeps, beside what is told of the run, holds after every legal run
pub kept_along : {X : Type 0} (tell : X → Step × Answer → X) (R : State → X → Type 0) →
    ((s : State) (x : X) (e : Step × Answer) → KeepsInvariant s → R s x → Allows s e.0.seat e.0.action e.1 → R (next s e) (tell x e)) →
    (s : State) (x : X) (run : Run) → KeepsInvariant s → R s x → IsLegalFrom s run → KeepsInvariant (fold next s run) × R (fold next s run) (fold tell x run)
kept_along tell R keep s x [] sound holds legal = (sound, holds)
kept_along tell R keep s x (e ∷ run) sound holds legal =
    let here : Allows s e.0.seat e.0.action e.1 = legal zero in
    kept_along tell R keep (next s e) (tell x e) run (sound_allowed s e.0.seat e.0.action e.1 sound here) (keep s x e sound holds here) (λ k. legal (suc k))

pub sound_run : (zone : Zone) (run : Run) → IsLegalRun zone run → KeepsInvariant (state_of zone run)
sound_run zone run legal = (kept_along (λ (x : ℕ) e. x) (λ s x. Unit {0}) (λ s x e sound h ok. tt) (at_boot zone) 0 run (sound_boot zone) tt legal).0

-- one more pair at the end of a run
abbrev pub one_more : Run → Step → Answer → Run
one_more run step answer = run ++ (step, answer) ∷ []

pub state_more : (zone : Zone) (run : Run) (step : Step) (answer : Answer) →
    state_of zone (one_more run step answer) ≡ after (state_of zone run) step.seat step.action answer
state_more zone run step answer = fold_push next (at_boot zone) run (step, answer)

pub get_before : {X : Type 0} (xs : List X) (x : X) (k : ℕ) → k < length xs → slice_get (xs ++ x ∷ []) k ≡ slice_get xs k
get_before [] x k h = absurd (omega arith)
get_before (y ∷ ys) x zero h = refl
get_before (y ∷ ys) x (suc k) h = get_before ys x k (omega arith)

pub get_last : {X : Type 0} (xs : List X) (x : X) → slice_get (xs ++ x ∷ []) (length xs) ≡ Some x
get_last [] x = refl
get_last (y ∷ ys) x = get_last ys x

pub legal_more : (zone : Zone) (run : Run) (step : Step) (answer : Answer) → IsLegalRun zone run →
    Allows (state_of zone run) step.seat step.action answer → IsLegalRun zone (one_more run step answer)
legal_more zone run step answer legal last k =
    elim (cases_lt k (length run)) [
      | inl before ↦
          let here : IfSome (slice_get run k) (λ e. Allows (state_of zone (take k run)) e.0.seat e.0.action e.1) = legal k in
          rw (get_before run (step, answer) k before, take-append-le k run ((step, answer) ∷ []) (omega arith)) here
      | inr past ↦ elim (cases_eq k (length run)) [
        | inl at ↦ rw (at, get_last run (step, answer), take_at run ((step, answer) ∷ []) (length run) refl) last
        | inr beyond ↦ rw (slice_get_past (one_more run step answer) k (let e = length-append run ((step, answer) ∷ []) in omega arith)) tt
      ]
    ]

taken : (k : ℕ) (run : Run) (P : Run → Step × Answer → Type 0) → ((j : ℕ) → IfSome (slice_get run j) (λ e. P (take j run) e)) →
    (j : ℕ) → IfSome (slice_get (take k run) j) (λ e. P (take j (take k run)) e)
taken zero run P each j = tt
taken (suc k) [] P each j = tt
taken (suc k) (x ∷ run) P each zero = each zero
taken (suc k) (x ∷ run) P each (suc j) = taken k run (λ before e. P (x ∷ before) e) (λ i. each (suc i)) j

-- a beginning of a legal run is legal
pub legal_from : (zone : Zone) (run : Run) (k : ℕ) → IsLegalRun zone run → IsLegalRun zone (take k run)
legal_from zone run k legal = taken k run (λ before e. Allows (state_of zone before) e.0.seat e.0.action e.1) legal
