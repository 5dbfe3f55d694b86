-- Lists of local steps, put together. Serves the `steps` clauses of all calls.
use Rattle.std.proofs.Common.{◌≡◌, ℕ, true, false, [], ◌∷◌, ◌++◌, refl, sym, subst, inl, inr}
use Rattle.step_rules.specs.declared.step.Action.{Action}
use Rattle.step_rules.specs.declared.step.Answer.{Answer}
use Rattle.step_rules.specs.State.{State}
use Rattle.step_rules.specs.{is_legal, IsAnswer, Run, after, is_of_lock, IsLocalStep}
use Rattle.mem_machine.specs.Local.{IsLocalRun}

-- a step of the zone's seat
pub zone_step : (s : State) (p : ℕ) (action : Action) (answer : Answer) → is_of_lock action ≡ false → is_legal s 0 action ≡ true → IsAnswer s 0 action answer
    → IsLocalStep s p 0 action answer
zone_step s p action answer inside legal answered = record { own = inl refl; inside = inside; legal = legal; answered = answered }

-- a step of the CPU's own seat
pub cpu_step : (s : State) (p : ℕ) (action : Action) (answer : Answer) → is_of_lock action ≡ false → is_legal s p action ≡ true → IsAnswer s p action answer
    → IsLocalStep s p p action answer
cpu_step s p action answer inside legal answered = record { own = inr refl; inside = inside; legal = legal; answered = answered }

-- one step is a list of steps
pub run_one : (p : ℕ) (s t : State) (seat : ℕ) (action : Action) (answer : Answer) → IsLocalStep s p seat action answer → t ≡ after s seat action answer
    → IsLocalRun p s ((record { seat = seat; action = action }, answer) ∷ []) t
run_one p s t seat action answer step same = (step, sym same)

-- one list after another
pub run_both : (p : ℕ) (one two : Run) (a b c : State) → IsLocalRun p a one b → IsLocalRun p b two c → IsLocalRun p a (one ++ two) c
run_both p [] two a b c first second = subst (λ (s : State). IsLocalRun p s two c) (sym first) second
run_both p (e ∷ rest) two a b c first second = (first.0, run_both p rest two (after a e.0.seat e.0.action e.1) b c first.1 second)
