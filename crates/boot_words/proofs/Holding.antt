-- What the lock's holder saw it still sees.
use Rattle.std.proofs.Common.{[], ◌≡◌, ℕ, Some, ◌∷◌, ◌++◌, length, take, refl, sym, ap, subst, inl, append_assoc}
use Rattle.std.specs.Prelude.{IfSome}
use Rattle.std.specs.List.{slice_get}
use Rattle.step_rules.specs.declared.step.Step.{Step}
use Rattle.step_rules.specs.declared.step.Answer.{Answer}
use Rattle.step_rules.specs.{Zone, Allows, Run, state_of, IsLegalRun, ShowsLocal}
use Rattle.step_rules.specs.State.{State}
use Rattle.step_rules.proofs.LocalLaws.{own_step_is_legal, other_step_is_hidden}
use Rattle.boot_words.specs.{HasNoStepOf, HolderGoesOn}

at_length : (xs : Run) (y : Step × Answer) (ys : Run) → slice_get (xs ++ y ∷ ys) (length xs) ≡ Some y
at_length [] y ys = refl
at_length (x ∷ xs) y ys = at_length xs y ys

pub take_length : (xs ys : Run) → take (length xs) (xs ++ ys) ≡ xs
take_length [] ys = refl
take_length (x ∷ xs) ys = ap (λ l. x ∷ l) (take_length xs ys)

pub append_none : (xs : Run) → xs ++ [] ≡ xs
append_none [] = refl
append_none (x ∷ xs) = ap (λ l. x ∷ l) (append_none xs)

-- the step after a beginning of a legal run is allowed there
pub allowed_at : (zone : Zone) (xs : Run) (e : Step × Answer) (ys : Run) → IsLegalRun zone (xs ++ e ∷ ys) → Allows (state_of zone xs) e.0.seat e.0.action e.1
allowed_at zone xs e ys legal =
    let here : IfSome (slice_get (xs ++ e ∷ ys) (length xs)) (λ d. Allows (state_of zone (take (length xs) (xs ++ e ∷ ys))) d.0.seat d.0.action d.1) = legal (length xs) in
    subst (λ r. Allows (state_of zone r) e.0.seat e.0.action e.1) (take_length xs (e ∷ ys))
    (subst (λ o. IfSome o (λ d. Allows (state_of zone (take (length xs) (xs ++ e ∷ ys))) d.0.seat d.0.action d.1)) (at_length xs e ys) here)

pub still_shows : (zone : Zone) (seen rest : Run) (cpu : ℕ) (local : State) → ShowsLocal zone seen cpu local → HasNoStepOf 0 rest → HasNoStepOf cpu rest
    → IsLegalRun zone (seen ++ rest) → ShowsLocal zone (seen ++ rest) cpu local
still_shows zone seen [] cpu local shows zone_none none legal = subst (λ r. ShowsLocal zone r cpu local) (sym (append_none seen)) shows
still_shows zone seen (e ∷ es) cpu local shows zone_none none legal =
    let more = append_assoc seen (e ∷ []) es in
    subst (λ r. ShowsLocal zone r cpu local) more
    (still_shows zone (seen ++ e ∷ []) es cpu local
    (other_step_is_hidden zone seen cpu local e.0 e.1 shows (inl (zone_none.0, none.0)) (allowed_at zone seen e es legal)) zone_none.1 none.1
    (subst (IsLegalRun zone) (sym more) legal))

pub holder_goes_on : HolderGoesOn
holder_goes_on zone seen rest cpu local step answer shows zone_none none legal does counted =
    own_step_is_legal zone (seen ++ rest) cpu local step answer (still_shows zone seen rest cpu local shows zone_none none legal) does counted
