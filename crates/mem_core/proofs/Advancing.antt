-- One more step of a core (for `Core::step`).
use Rattle.std.proofs.Common.{◌≡◌, ℕ, ◌+◌, ◌^◌, ◌<◌, refl, sym, ◌∙◌, ap, subst, arith, inl, inr, length-append, List, [], ◌∷◌, ◌++◌}
use Rattle.group_tree.specs.Bounds.{most_groups}
use Rattle.zone_blocks.specs.declared.block.Block.{Block}
use Rattle.zone_blocks.specs.Areas.{AreMaximalBlocks, IsFrontOfSmallest}
use Rattle.step_rules.specs.declared.step.Step.{Step}
use Rattle.step_rules.specs.declared.step.Action.{Action}
use Rattle.step_rules.specs.declared.step.Action.TheVariants.{Lock, PlaceBlock}
use Rattle.step_rules.specs.declared.step.Answer.{Answer}
use Rattle.step_rules.specs.declared.step.Answer.TheVariants.{Illegal, Placed}
use Rattle.step_rules.specs.{Zone, at_boot, free_in, Allows, Run, after, state_of, IsLegalRun, UsageMoves, KeepsInvariant, IsHomed}
use Rattle.step_rules.specs.State.{State}
use Rattle.step_rules.proofs.Sums.{sum_none}
use Rattle.step_rules.proofs.Moving.{usage_step, moves_illegal}
use Rattle.step_rules.proofs.Few.{pins_boot}
use Rattle.step_rules.proofs.SoundSteps.{sound_step}
use Rattle.step_rules.proofs.Runs.{after_illegal, allowed, state_more, legal_more}
use Rattle.mem_core.specs.{PlacesFront, pages_asked, IsBounded, CoreState, ShowsRun, AccountsMatchRun, state_shown, account_after, account_in}
use Rattle.mem_core.specs.{AccountsFollow, PlacesFrontIn}
use Rattle.mem_core.proofs.Bounding.{bounded_step}
use Rattle.mem_core.specs.Accounts.{Account}
use Rattle.mem_core.proofs.Accounting.{tell_more}
use Rattle.zone_blocks.proofs.Unique.{unique_blocks}

pub sound_after : (s : State) (seat : ℕ) (action : Action) (answer : Answer) → KeepsInvariant s → Allows s seat action answer → KeepsInvariant (after s seat action answer)
sound_after s seat action answer sound ok =
    elim (allowed s seat action answer ok) [
      | inl illegal ↦ subst KeepsInvariant (sym (ap (after s seat action) illegal ∙ after_illegal s seat action)) sound
      | inr made ↦ sound_step s seat action answer sound made.legal made.answered made.counted
    ]

-- no step but a grant raises any usage
pub usage_after : (s : State) (seat : ℕ) (action : Action) (answer : Answer) → KeepsInvariant s → IsHomed s
    → Allows s seat action answer → UsageMoves s seat action answer
usage_after s seat action answer sound homed ok =
    elim (allowed s seat action answer ok) [
      | inl illegal ↦ subst (UsageMoves s seat action) (sym illegal) (moves_illegal s seat action)
      | inr made ↦ usage_step s seat action answer sound homed made.legal made.answered made.counted
    ]

pub widened : (n : ℕ) (s : State) → IsBounded n s → IsBounded (n + 2 ^ 32) s
widened n s b = record { references = b.references; pages = let h = b.pages in omega arith; holder = b.holder; pins = b.pins }

pub bounded_after : (n : ℕ) (s : State) (seat : ℕ) (action : Action) (answer : Answer) → KeepsInvariant s → IsBounded n s
    → Allows s seat action answer → pages_asked action < 2 ^ 32 → IsBounded (n + 2 ^ 32) (after s seat action answer)
bounded_after n s seat action answer sound bounded ok small =
    elim (allowed s seat action answer ok) [
      | inl illegal ↦ subst (IsBounded (n + 2 ^ 32)) (sym (ap (after s seat action) illegal ∙ after_illegal s seat action)) (widened n s bounded)
      | inr made ↦ bounded_step n s seat action answer sound bounded made.legal made.answered made.counted small
    ]

-- a step that is refused moves no account
account_illegal : (t : State) (action : Action) (m : ℕ) (a : Account) → account_after t action Illegal m a ≡ a
account_illegal t Lock m a = refl
account_illegal t action m a = refl

pub follow_illegal : (t : State) (action : Action) (answer : Answer) (accounts : List Account) → answer ≡ Illegal
    → AccountsFollow t action answer accounts accounts
follow_illegal t action answer accounts e m there =
    sym (ap (λ (x : Answer). account_after t action x m (account_in accounts m)) e ∙ account_illegal t action m (account_in accounts m))

-- a core that showed a run shows it with the step and its answer
pub shown_more : (s t : CoreState) (run : Run) (step : Step) (answer : Answer) → ShowsRun s run → Allows (state_shown s) step.seat step.action answer →
    t.zone ≡ s.zone → t.steps ≡ s.steps + 1 → state_shown t ≡ after (state_shown s) step.seat step.action answer
    → AccountsFollow (after (state_shown s) step.seat step.action answer) step.action answer s.accounts t.accounts → ShowsRun t (run ++ (step, answer) ∷ [])
shown_more s t run step answer shows ok zone steps state follow =
    let here : Allows (state_of s.zone run) step.seat step.action answer = subst (λ (x : State). Allows x step.seat step.action answer) shows.state ok in
    let more : state_shown t ≡ state_of s.zone (run ++ (step, answer) ∷ []) = state
    ∙ ap (λ (x : State). after x step.seat step.action answer) shows.state ∙ sym (state_more s.zone run step answer) in
    record {
      legal = subst (λ (z : Zone). IsLegalRun z (run ++ (step, answer) ∷ [])) (sym zone) (legal_more s.zone run step answer shows.legal here);
      steps = let a = length-append run ((step, answer) ∷ []) in let b = shows.steps in omega arith;
      state = more ∙ ap (λ (z : Zone). state_of z (run ++ (step, answer) ∷ [])) (sym zone);
      accounts = subst (λ (z : Zone). AccountsMatchRun z (run ++ (step, answer) ∷ []) t.accounts) (sym zone)
          (tell_more s.zone run step answer s.accounts t.accounts shows.legal here shows.accounts
          (subst (λ (x : State). AccountsFollow (after x step.seat step.action answer) step.action answer s.accounts t.accounts) shows.state follow));
    }

-- the placed block is the one that any list of the maximal free blocks gives
pub first_from : (s : State) (areas : List Block) (action : Action) (answer : Answer)
    → AreMaximalBlocks (free_in s.zone s.phases) areas → PlacesFront areas action answer → PlacesFrontIn s action answer
first_from s own (PlaceBlock g k) (Placed b) maximal front =
    λ areas other. subst (λ (l : List Block). IsFrontOfSmallest l k b) (unique_blocks (free_in s.zone s.phases) own areas maximal other) front
first_from s own action answer maximal front = tt

-- at first every number is 0
pub bounded_boot : (n : ℕ) (zone : Zone) → IsBounded n (at_boot zone)
bounded_boot n zone = record {
  references = λ seat f. omega arith;
  pages = let a = sum_none most_groups (λ g. 0) (λ i b. refl) in let b = sum_none (zone.cpus + 1) (λ p. 0) (λ i b. refl) in omega arith;
  holder = tt;
  pins = pins_boot zone;
}
