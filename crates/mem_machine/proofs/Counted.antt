-- The machine's counts follow lists of steps in which units end and are freed. Serves the `steps` clauses of
-- `drain_list`, `settle`, `put_zone_reference` and `evict`.
use Rattle.std.proofs.Common.{◌≡◌, ℕ, Bool, false, cond, refl, sym, ap, ◌∙◌}
use Rattle.step_rules.specs.declared.phase.Stage.TheVariants.{AwaitsReturn}
use Rattle.step_rules.specs.declared.phase.Phase.{Phase}
use Rattle.step_rules.specs.declared.phase.Phase.TheVariants as phase
use Rattle.step_rules.specs.declared.step.Action.TheVariants.{Put, Return}
use Rattle.step_rules.specs.declared.step.Answer.TheVariants.{Done, Last}
use Rattle.step_rules.specs.{at_stage, passed_back, collected, with_at, is_killed_return_phase, after}
use Rattle.step_rules.specs.State.{State}
use Rattle.step_rules.proofs.Basics.{at_same}
use Rattle.mem_machine.specs.declared.counts.Counts.{Counts}
use Rattle.mem_machine.specs.{with_killed_fresh, counts_after, is_back_passing, one_more_last_put, one_more_return}

module _ (s : State) (f : ℕ) (x : Phase) (is : s.phases f ≡ x) where
  -- the phases after the frame was passed back
  abbrev passed : ℕ → Phase
  passed = with_at s.phases f (passed_back (s.phases f))

  passed_at : passed f ≡ passed_back x
  passed_at = at_same s.phases f (passed_back (s.phases f)) ∙ ap passed_back is

  -- and was collected
  collected_at : with_at passed f (collected (passed f)) f ≡ collected (passed_back x)
  collected_at = at_same passed f (collected (passed f)) ∙ ap collected passed_at

  -- a frame that is collected, and isn't a back frame, is no last put
  pub collects_none : is_back_passing (passed_back x) ≡ false → (counts : Counts)
      → counts ≡ cond (is_back_passing (passed f)) (one_more_last_put counts) counts
  collects_none other counts = sym (ap (λ (b : Bool). cond b (one_more_last_put counts) counts) (ap is_back_passing passed_at ∙ other))

  -- a unit whose head is passed back, collected and returned
  pub comes_back : (is_back is_killed_return : Bool) → is_back_passing (passed_back x) ≡ is_back → is_killed_return_phase s.killed (collected (passed_back x)) ≡ is_killed_return → (counts : Counts)
      → (let here = cond is_back (one_more_last_put counts) counts in cond is_killed_return (with_killed_fresh here) (one_more_return here))
      ≡ (let here = cond (is_back_passing (passed f)) (one_more_last_put counts) counts in
      cond (is_killed_return_phase s.killed (with_at passed f (collected (passed f)) f)) (with_killed_fresh here) (one_more_return here))
  comes_back is_back is_killed_return back drop counts = λ i.
      let here = cond (sym (ap is_back_passing passed_at ∙ back) i) (one_more_last_put counts) counts in
      cond (sym (ap (is_killed_return_phase s.killed) collected_at ∙ drop) i) (with_killed_fresh here) (one_more_return here)

-- a unit that ended is no drop
no_drop : (killed : ℕ → Bool) (x : Phase) → is_killed_return_phase killed (at_stage AwaitsReturn x) ≡ false
no_drop killed phase.InZone = refl
no_drop killed (phase.Lent q way) = refl
no_drop killed (phase.Head unit stage) = refl
no_drop killed (phase.Tail g) = refl

-- the return of a unit of which the zone had the last reference
pub returned_ended : (s : State) (f : ℕ) (counts : Counts) → counts_after (after s 0 (Put f) Last) 0 (Return f) Done counts ≡ one_more_return counts
returned_ended s f counts = ap (λ (b : Bool). cond b (with_killed_fresh counts) (one_more_return counts))
    (ap (is_killed_return_phase s.killed) (at_same s.phases f (at_stage AwaitsReturn (s.phases f))) ∙ no_drop s.killed (s.phases f))
