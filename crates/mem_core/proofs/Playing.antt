-- A run so far, and one step more (for `play`).
use Rattle.std.proofs.Common.{◌≡◌, ℕ, ◌+◌, ◌<◌, ◌≤◌, List, [], ◌∷◌, ◌++◌, length, take, get_or, refl, sym, ◌∙◌, ap, subst, arith}
use Rattle.std.specs.List.{zip}
use Rattle.std.proofs.lemmas.List.{take_more, take_all, length-take-le}
use Rattle.step_rules.specs.declared.step.Step.{Step}
use Rattle.step_rules.specs.declared.step.Answer.{Answer}
use Rattle.step_rules.specs.{Zone, Run, state_of, pushed}
use Rattle.step_rules.specs.State.{State}
use Rattle.mem_core.specs.{CoreState, ShowsRun, state_shown, HasMaximalAreas, PlacesFrontIn, AlwaysPlacesFirst}
use Rattle.mem_core.proofs.Pushing.{each_step_push}

zip-push : (steps : List Step) (answers : List Answer) (step : Step) (answer : Answer) → length steps ≡ length answers
    → zip (steps ++ step ∷ []) (answers ++ answer ∷ []) ≡ pushed (zip steps answers) step answer
zip-push [] [] step answer e = refl
zip-push [] (a ∷ answers) step answer e = absurd (omega arith)
zip-push (s ∷ steps) [] step answer e = absurd (omega arith)
zip-push (s ∷ steps) (a ∷ answers) step answer e = ap (λ l. (s, a) ∷ l) (zip-push steps answers step answer (omega arith))

pub zip-take_more : (steps : List Step) (answers : List Answer) (i : ℕ) (step : Step) (answer : Answer)
    → i < length steps → length answers ≡ i
    → zip (take (i + 1) steps) (answers ++ answer ∷ []) ≡ pushed (zip (take i steps) answers) (get_or steps i step) answer
zip-take_more steps answers i step answer h len =
    ap (λ l. zip l (answers ++ answer ∷ [])) (take_more steps i step h)
    ∙ zip-push (take i steps) answers (get_or steps i step) answer (length-take-le i steps (omega arith) ∙ sym len)

-- what has been said of the run so far
pub record PlaysOn (zone : Zone) (s : CoreState) (run : Run) : Type 0 where
  pub sizes : s.zone ≡ zone
  pub shows : ShowsRun s run
  pub areas : HasMaximalAreas s
  pub first : AlwaysPlacesFirst zone run

pub PlaysOn-start : (zone : Zone) (s : CoreState) → s.zone ≡ zone → ShowsRun s [] → HasMaximalAreas s → PlaysOn zone s []
PlaysOn-start zone s same shows areas = record { sizes = same; shows = shows; areas = areas; first = λ k. tt }

pub PlaysOn-step : (zone : Zone) (s t : CoreState) (run : Run) (step : Step) (answer : Answer) → PlaysOn zone s run
    → PlacesFrontIn (state_shown s) step.action answer → t.zone ≡ s.zone → ShowsRun t (pushed run step answer)
    → HasMaximalAreas t → PlaysOn zone t (pushed run step answer)
PlaysOn-step zone s t run step answer so_far smallest same shows areas = record {
  sizes = same ∙ so_far.sizes;
  shows = shows;
  areas = areas;
  first = each_step_push (λ before x a. PlacesFrontIn (state_of zone before) x.action a) run step answer so_far.first
      (subst (λ (x : State). PlacesFrontIn x step.action answer) (so_far.shows.state ∙ ap (λ z. state_of z run) so_far.sizes) smallest);
}

length-zip : {X Y : Type 0} (xs : List X) (ys : List Y) → length xs ≡ length ys → length (zip xs ys) ≡ length ys
length-zip [] [] e = refl
length-zip [] (y ∷ ys) e = absurd (omega arith)
length-zip (x ∷ xs) [] e = absurd (omega arith)
length-zip (x ∷ xs) (y ∷ ys) e = let rest = length-zip xs ys (omega arith) in omega arith

-- as many pairs as answers
pub length-zip-take : (steps : List Step) (answers : List Answer) (i : ℕ) → i ≤ length steps → length answers ≡ i → length (zip (take i steps) answers) ≡ i
length-zip-take steps answers i h len = length-zip (take i steps) answers (length-take-le i steps h ∙ sym len) ∙ len

-- all steps were made
pub PlaysOn-all : (zone : Zone) (s : CoreState) (steps : List Step) (answers : List Answer) (i : ℕ) → length steps ≤ i
    → PlaysOn zone s (zip (take i steps) answers) → PlaysOn zone s (zip steps answers)
PlaysOn-all zone s steps answers i h plays = subst (λ (l : List Step). PlaysOn zone s (zip l answers)) (take_all i steps h) plays
