-- Local steps along a legal run are answered as the whole counts. Serves `lines_follow`.
use Rattle.std.proofs.Common.{◌≡◌, ℕ, ◌==◌, Bool, true, cond, [], ◌∷◌, ◌++◌, length, take, refl, sym, ◌∙◌, ap, subst, inl, inr, zero, suc, eq-eqb}
use Rattle.std.specs.Prelude.{IfSome}
use Rattle.std.specs.List.{slice_get}
use Rattle.std.proofs.lemmas.Bool.{or_left, or_right, true≢false}
use Rattle.std.proofs.lemmas.List.{append_assoc, append-nil}
use Rattle.step_rules.specs.declared.step.Action.{Action}
use Rattle.step_rules.specs.declared.step.Action.TheVariants.{Lock}
use Rattle.step_rules.specs.declared.step.Answer.TheVariants.{Illegal}
use Rattle.step_rules.specs.{Zone, IsAnswer, Run, after, state_of, IsLegalRun, IsInterleaved, IsLocalRun, MayFollow, is_own, own_steps}
use Rattle.step_rules.specs.State.{State}
use Rattle.step_rules.proofs.Own.{IsOwn}
use Rattle.step_rules.proofs.Runs.{allowed, legal_from}
use Rattle.boot_words.proofs.Holding.{allowed_at, take_length}

pub legal_front : (zone : Zone) (run more : Run) → IsLegalRun zone (run ++ more) → IsLegalRun zone run
legal_front zone run more legal = subst (IsLegalRun zone) (take_length run more) (legal_from zone (run ++ more) (length run) legal)

own_is : (p seat : ℕ) → IsOwn p seat → is_own p seat ≡ true
own_is p seat (inl z) = or_left (seat == 0) (seat == p) (eq-eqb seat 0 z)
own_is p seat (inr e) = or_right (seat == 0) (seat == p) (eq-eqb seat p e)

-- local steps are the CPU's own
pub own_all : (p : ℕ) (a : State) (steps : Run) (b : State) → IsLocalRun p a steps b → own_steps p steps ≡ steps
own_all p a [] b leads = refl
own_all p a (e ∷ steps) b leads =
    ap (λ (c : Bool). cond c (e ∷ own_steps p steps) (own_steps p steps)) (own_is p e.0.seat leads.0.own)
    ∙ ap (λ (r : Run). e ∷ r) (own_all p (after a e.0.seat e.0.action e.1) steps b leads.1)

never_illegal : (s : State) (seat : ℕ) (action : Action) → IsAnswer s seat action Illegal → ⊥
never_illegal s seat Lock answered = answered
never_illegal s seat action answered = answered

-- each of them is counted by the whole as it is made
pub interleaved : (zone : Zone) (p : ℕ) (run : Run) (a : State) (steps : Run) (b : State) → IsLocalRun p a steps b → IsLegalRun zone (run ++ steps)
    → IsInterleaved zone run p steps
interleaved zone p run a [] b leads legal k = tt
interleaved zone p run a (e ∷ steps) b leads legal zero =
    subst (λ (r : Run). MayFollow p (state_of zone r) e.0.seat e.0.action e.1) (sym (append-nil run)) (record {
      other = λ off. absurd (true≢false (sym (own_is p e.0.seat leads.0.own) ∙ off));
      own = λ is. elim (allowed (state_of zone run) e.0.seat e.0.action e.1 (allowed_at zone run e steps legal)) [
        | inl illegal ↦ absurd (never_illegal a e.0.seat e.0.action (subst (IsAnswer a e.0.seat e.0.action) illegal leads.0.answered))
        | inr made ↦ made.counted
      ];
    })
interleaved zone p run a (e ∷ steps) b leads legal (suc k) =
    subst (λ (r : Run). IfSome (slice_get steps k) (λ d. MayFollow p (state_of zone r) d.0.seat d.0.action d.1)) (append_assoc run (e ∷ []) (take k steps))
    (interleaved zone p (run ++ e ∷ []) (after a e.0.seat e.0.action e.1) steps b leads.1
    (subst (IsLegalRun zone) (sym (append_assoc run (e ∷ []) steps)) legal) k)
