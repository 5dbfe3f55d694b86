-- A frame of the visited CPU moves into the zone's hand: the steps by which it is freed, kept or dropped, and the state
-- that each list of steps leads to. Serves `unlist_one` and `settle`.
use Rattle.std.proofs.Common.{◌≡◌, ℕ, ◌+◌, ◌-◌, ◌==◌, Bool, true, false, cond, [], ◌∷◌, ◌++◌, refl, ap, ◌∙◌, subst, sym, arith, eq-eqb}
use Rattle.std.specs.Prelude.{nat_le}
use Rattle.std.proofs.lemmas.Bool.{and_from, or_left, or_right, le-leb}
use Rattle.step_rules.specs.declared.phase.ChargedUnit.{ChargedUnit}
use Rattle.step_rules.specs.declared.phase.Stage.TheVariants.{FreshAt, FreshPassing, Collected, Live, BackAt, BackPassing, AwaitsReturn}
use Rattle.step_rules.specs.declared.phase.Way.TheVariants.{OnList, PassingBack}
use Rattle.step_rules.specs.declared.phase.Phase.{Phase}
use Rattle.step_rules.specs.declared.phase.Phase.TheVariants as phase
use Rattle.step_rules.specs.declared.step.Action.{Action}
use Rattle.step_rules.specs.declared.step.Action.TheVariants.{PassBack, Collect, Report, Absorb, Unfreeze, Publish, Return}
use Rattle.step_rules.specs.declared.step.Answer.{Answer}
use Rattle.step_rules.specs.declared.step.Answer.TheVariants.{Done, Pages}
use Rattle.step_rules.specs.Phases as phases
use Rattle.step_rules.specs.State.{State}
use Rattle.step_rules.specs.{Part, front_of, with_at, is_cpu, is_frame, visits, may_zone_act, one_if, is_legal, Run, after, without_frame, cpu_makes}
use Rattle.step_rules.specs.{without_unit, IsLocalStep, IsLocalRun, zone_makes}
use Rattle.step_rules.proofs.Basics.{at_same}
use Rattle.mem_machine.specs.Steps.{unlist_steps}
use Rattle.mem_machine.specs.Settling.{collect_steps, return_steps}
use Rattle.mem_machine.proofs.Reaching.{zone_step, cpu_step}

run_step : (p : ℕ) (s t b : State) (seat : ℕ) (action : Action) (answer : Answer) (steps : Run) → IsLocalStep s p seat action answer
    → after s seat action answer ≡ t → IsLocalRun p t steps b → IsLocalRun p s ((record { seat = seat; action = action }, answer) ∷ steps) b
run_step p s t b seat action answer steps is_step is rest = (is_step, subst (λ (x : State). IsLocalRun p x steps b) (sym is) rest)

again : {X : Type 0} (b : Bool) (x y z : X) → cond b y (cond b x z) ≡ cond b y z
again true x y z = refl
again false x y z = refl

-- a value that was given is changed
at_again : {X : Type 0} (h : ℕ → X) (k : ℕ) (x : X) (change : X → X) → with_at (with_at h k x) k (change (with_at h k x k)) ≡ with_at h k (change x)
at_again h k x change =
    ap (λ (y : _). with_at (with_at h k x) k (change y)) (at_same h k x) ∙ (λ i. λ m. again (m == k) x (change x) (h m) i)

-- frame f has this phase, CPU p this part, and the references are these
abbrev pub moved : State → ℕ → ℕ → Part → Phase → (ℕ → ℕ → ℕ) → State
moved s p f part x references = record s { phases = with_at s.phases f x; parts = with_at s.parts p part; references = references }

-- CPU p visits, and f is a frame
pub record IsVisited (s : State) (p f : ℕ) : Type 0 where
  pub acts : may_zone_act s.hold 0 ≡ true
  pub visiting : visits p s.hold ≡ true
  pub cpu : is_cpu s.zone p ≡ true
  pub framed : is_frame s.zone f ≡ true

module _ (s : State) (p f : ℕ) (visited : IsVisited s p f) where
  abbrev same_cpu : (p == p) ≡ true
  same_cpu = eq-eqb p p refl

  -- the CPU's part without the frame, which had this phase
  abbrev pub part_without : Phase → Part
  part_without x = without_frame (s.parts p) x p f

  hands : (x : Phase) → s.phases f ≡ x → after s p (PassBack f) Done ≡ moved s p f (part_without x) (phases.passed_back x) s.references
  hands x is i = moved s p f (without_frame (s.parts p) (is i) p f) (phases.passed_back (is i)) s.references

  -- what is passed back is collected
  module _ (part : Part) (x : Phase) (passes : phases.passes_back p x ≡ true) where
    may_collect : is_legal (moved s p f part x s.references) 0 (Collect f p) ≡ true
    may_collect = and_from _ _ (and_from _ _ (and_from _ _ visited.acts visited.framed) visited.cpu)
        (ap (phases.passes_back p) (at_same s.phases f x) ∙ passes)

    collects : after (moved s p f part x s.references) 0 (Collect f p) Done ≡ moved s p f part (phases.collected x) s.references
    collects = λ i. record (moved s p f part x s.references) { phases = at_again s.phases f x phases.collected i }

  -- ---- the front of the list

  abbrev pub unlisted_state : State
  unlisted_state = moved s p f (part_without (phase.Lent p OnList)) phase.InZone s.references

  pub unlist_run : s.phases f ≡ phase.Lent p OnList → front_of (s.parts p).list ≡ f → IsLocalRun p s (unlist_steps p f) unlisted_state
  unlist_run listed front =
      let part = part_without (phase.Lent p OnList) in
      let gone : State = moved s p f part (phase.Lent p PassingBack) s.references in
      let may_hand : is_legal s p (PassBack f) ≡ true = and_from _ _ (and_from _ _ (and_from _ _ visited.cpu visited.framed) visited.visiting)
      (or_left _ _ (or_left _ _ (and_from _ _ (ap (phases.has_as phases.ListFrame p) listed ∙ same_cpu) (eq-eqb (front_of (s.parts p).list) f front)))) in
      run_step p s gone unlisted_state p (PassBack f) Done (zone_makes (Collect f p) Done ∷ [])
      (cpu_step s p (PassBack f) Done refl may_hand tt) (hands (phase.Lent p OnList) listed)
      (zone_step gone p (Collect f p) Done refl (may_collect part (phase.Lent p PassingBack) same_cpu) tt, collects part (phase.Lent p PassingBack) same_cpu)

  module _ (unit : ChargedUnit) where
    -- ---- a fresh frame, and its page

    abbrev handed : Part
    handed = part_without (phase.Head unit (FreshAt p))

    abbrev reported : Part
    reported = record handed { unreported = handed.unreported - 1; reported = handed.reported + 1 }

    -- the CPU's part with the page reported and absorbed
    abbrev pub absorbed_part : Part
    absorbed_part = record reported { book = reported.book - 1; reported = reported.reported - 1 }

    abbrev pub collected_state : State
    collected_state = moved s p f absorbed_part (phase.Head unit Collected) s.references

    module _ (fresh : s.phases f ≡ phase.Head unit (FreshAt p)) (none_reported : (s.parts p).reported ≡ 0) where
      s1 : State
      s1 = moved s p f handed (phase.Head unit (FreshPassing p)) s.references

      s2 : State
      s2 = moved s p f reported (phase.Head unit (FreshPassing p)) s.references

      s3 : State
      s3 = moved s p f reported (phase.Head unit Collected) s.references

      may_hand : is_legal s p (PassBack f) ≡ true
      may_hand = and_from _ _ (and_from _ _ (and_from _ _ visited.cpu visited.framed) visited.visiting)
          (or_left _ _ (or_right _ _ (ap (phases.has_as phases.FreshFrame p) fresh ∙ same_cpu)))

      may_report : is_legal s1 p (Report 1) ≡ true
      unfolding s1
      may_report = and_from _ _ (and_from _ _ visited.cpu visited.visiting)
          (ap (λ (x : Part). nat_le 1 x.unreported) (at_same s.parts p handed)
          ∙ le-leb 1 handed.unreported (let one = ap one_if same_cpu in omega (arith, one)))

      reports : after s1 p (Report 1) Done ≡ s2
      unfolding s1 s2
      reports = λ i. record s1 { parts = at_again s.parts p handed (λ (x : Part). record x { unreported = x.unreported - 1; reported = x.reported + 1 }) i }

      may_absorb : is_legal s3 0 (Absorb p) ≡ true
      unfolding s3
      may_absorb = and_from _ _ visited.acts visited.visiting

      one_reported : 1 ≡ (s3.parts p).reported
      unfolding s3
      one_reported = let a = ap (λ (x : Part). x.reported) (at_same s.parts p reported) in omega (arith, a, none_reported)

      absorbs : after s3 0 (Absorb p) (Pages 1) ≡ collected_state
      unfolding s3
      absorbs = λ i. record s3 { parts = at_again s.parts p reported (λ (x : Part). record x { book = x.book - 1; reported = x.reported - 1 }) i }

      pub collect_run : (steps : Run) (b : State) → IsLocalRun p collected_state steps b → IsLocalRun p s (collect_steps p f ++ steps) b
      unfolding s1 s2 s3
      collect_run steps b rest =
          run_step p s s1 b p (PassBack f) Done
          (cpu_makes p (Report 1) Done ∷ zone_makes (Collect f p) Done ∷ zone_makes (Absorb p) (Pages 1) ∷ steps)
          (cpu_step s p (PassBack f) Done refl may_hand tt) (hands (phase.Head unit (FreshAt p)) fresh)
          (run_step p s1 s2 b p (Report 1) Done (zone_makes (Collect f p) Done ∷ zone_makes (Absorb p) (Pages 1) ∷ steps)
          (cpu_step s1 p (Report 1) Done refl may_report tt) reports
          (run_step p s2 s3 b 0 (Collect f p) Done (zone_makes (Absorb p) (Pages 1) ∷ steps)
          (zone_step s2 p (Collect f p) Done refl (may_collect reported (phase.Head unit (FreshPassing p)) same_cpu) tt)
          (collects reported (phase.Head unit (FreshPassing p)) same_cpu)
          (run_step p s3 collected_state b 0 (Absorb p) (Pages 1) steps (zone_step s3 p (Absorb p) (Pages 1) refl may_absorb one_reported) absorbs rest)))

    -- it is kept
    abbrev pub one_more_held : ℕ → ℕ → ℕ
    one_more_held = with_at s.references 0 (with_at (s.references 0) f (s.references 0 f + 1))

    abbrev pub kept_state : State
    kept_state = moved s p f absorbed_part (phase.Head unit Live) one_more_held

    may_unfreeze : is_legal collected_state 0 (Unfreeze f 1) ≡ true
    may_unfreeze = and_from _ _ (and_from _ _ (and_from _ _ (and_from _ _ visited.acts visited.framed)
        (ap phases.is_head_in_hand (at_same s.phases f (phase.Head unit Collected)))) (le-leb 1 1 (omega arith))) (le-leb 1 255 (omega arith))

    unfreezes : after collected_state 0 (Unfreeze f 1) Done ≡ kept_state
    unfreezes = λ i. record collected_state {
      phases = at_again s.phases f (phase.Head unit Collected) (phases.at_stage Live) i;
      references = one_more_held;
    }

    held_now : kept_state.references 0 f ≡ s.references 0 f + 1
    held_now =
        ap (λ (r : ℕ → ℕ). r f) (at_same s.references 0 (with_at (s.references 0) f (s.references 0 f + 1)))
        ∙ at_same (s.references 0) f (s.references 0 f + 1)

    may_publish : is_legal kept_state 0 (Publish f) ≡ true
    may_publish = and_from _ _ (and_from _ _ (and_from _ _ visited.acts visited.framed)
        (ap phases.is_head (at_same s.phases f (phase.Head unit Live)))) (le-leb 1 (kept_state.references 0 f) (let a = held_now in omega (arith, a)))

    pub keep_run : IsLocalRun p collected_state (zone_makes (Unfreeze f 1) Done ∷ zone_makes (Publish f) Done ∷ []) kept_state
    keep_run =
        run_step p collected_state kept_state kept_state 0 (Unfreeze f 1) Done (zone_makes (Publish f) Done ∷ [])
        (zone_step collected_state p (Unfreeze f 1) Done refl may_unfreeze tt) unfreezes
        (zone_step kept_state p (Publish f) Done refl may_publish tt, refl)

    -- it is dropped
    abbrev pub dropped_state : State
    dropped_state = record collected_state { phases = without_unit collected_state.phases f }

    pub drop_run : s.killed unit.group ≡ true → IsLocalRun p collected_state (zone_makes (Return f) Done ∷ []) dropped_state
    drop_run killed =
        let may_return : is_legal collected_state 0 (Return f) ≡ true = and_from _ _ (and_from _ _ visited.acts visited.framed)
        (ap (phases.is_returnable s.killed) (at_same s.phases f (phase.Head unit Collected)) ∙ killed) in
        (zone_step collected_state p (Return f) Done refl may_return tt, refl)

    -- ---- a back frame

    abbrev pub handed_back : Part
    handed_back = part_without (phase.Head unit (BackAt p))

    abbrev pub ended_state : State
    ended_state = moved s p f handed_back (phase.Head unit AwaitsReturn) s.references

    abbrev pub returned_state : State
    returned_state = record ended_state { phases = without_unit ended_state.phases f }

    pub return_run : s.phases f ≡ phase.Head unit (BackAt p) → IsLocalRun p s (return_steps p f) returned_state
    return_run back =
        let gone : State = moved s p f handed_back (phase.Head unit (BackPassing p)) s.references in
        let may_hand_back : is_legal s p (PassBack f) ≡ true = and_from _ _ (and_from _ _ (and_from _ _ visited.cpu visited.framed) visited.visiting)
        (or_right _ _ (ap (phases.has_as phases.BackFrame p) back ∙ same_cpu)) in
        let may_return : is_legal ended_state 0 (Return f) ≡ true = and_from _ _ (and_from _ _ visited.acts visited.framed)
        (ap (phases.is_returnable s.killed) (at_same s.phases f (phase.Head unit AwaitsReturn))) in
        run_step p s gone returned_state p (PassBack f) Done (zone_makes (Collect f p) Done ∷ zone_makes (Return f) Done ∷ [])
        (cpu_step s p (PassBack f) Done refl may_hand_back tt) (hands (phase.Head unit (BackAt p)) back)
        (run_step p gone ended_state returned_state 0 (Collect f p) Done (zone_makes (Return f) Done ∷ [])
        (zone_step gone p (Collect f p) Done refl (may_collect handed_back (phase.Head unit (BackPassing p)) same_cpu) tt)
        (collects handed_back (phase.Head unit (BackPassing p)) same_cpu)
        (zone_step ended_state p (Return f) Done refl may_return tt, refl))
