use Rattle.std.proofs.Common.{◌≡◌, ◌≢◌, ℕ, true, [], ◌∷◌, ◌++◌, length, refl, sym, ap, subst, ◌∙◌, inl, inr, arith}
use Rattle.std.proofs.lemmas.Bool.{false≢true}
use Rattle.step_rules.specs.declared.step.Action.TheVariants.{Get}
use Rattle.step_rules.specs.declared.step.Answer.TheVariants.{Held}
use Rattle.step_rules.specs.After.{Run, cpu_makes}
use Rattle.step_rules.specs.Reaches.{IsLocalRun}
use Rattle.step_rules.specs.State.{State}
use Rattle.mem_machine.specs.{local_of, lock_holder, note_oom_steps, transition}
use Rattle.mem_alloc.specs.NoRash.{MayKill, has_oom_note}
use Rattle.mem_alloc.specs.KillBreaches.{asks_a_page, raised}
use Rattle.mem_alloc.proofs.RashSteps.{at_once, kill, noted}
use Rattle.mem_alloc.proofs.breaches.a_kill_out_of_turn_is_rash.Goals as goal

not_noted : (tried since : Run) → [] ≡ tried ++ since → has_oom_note 1 tried ≢ true
not_noted [] since is note = false≢true note
not_noted (e ∷ tried) since is note = let long = ap length is in omega (arith, long)

pub returns-clause-at_once : goal.returns-clause-at_once
returns-clause-at_once c = λ table start none rash.
    let after = rash [] [] (kill 2) 2 refl refl in
    not_noted after.tried after.since after.steps_are (noted after)

-- a note is tried after the step of CPU 2
not_local : (holder : ℕ) (a b : State) (tried since : Run) → holder ≢ 2 → cpu_makes 2 (Get 0) Held ∷ note_oom_steps 1 ≡ tried ++ since
    → IsLocalRun holder a tried b → has_oom_note 1 tried ≢ true
not_local holder a b [] since other is leads note = false≢true note
not_local holder a b (e ∷ tried) since other is leads note =
    let seat : 2 ≡ e.0.seat = ap first_seat is in
    elim leads.0.own [ inl zone ↦ omega (arith, seat, zone) | inr same ↦ other (sym (seat ∙ same)) ]
  where
    first_seat : Run → ℕ
    first_seat [] = 2
    first_seat (e ∷ later) = e.0.seat

pub returns-clause-after_others : goal.returns-clause-after_others
returns-clause-after_others c = λ table start other rash.
    let after = rash (cpu_makes 2 (Get 0) Held ∷ note_oom_steps 1) [] (kill 2) 2 refl refl in
    not_local (lock_holder start) (local_of table start) (local_of table after.now) after.tried after.since other after.steps_are after.leads
    (noted after)

pub returns-clause-raised : goal.returns-clause-raised
returns-clause-raised c = λ table start nobody rash.
    let after = rash raised [] (kill 2) 2 refl refl in
    let same = sym (at_once after refl) in
    nobody after.now after.killed
    (subst (λ (s : Run). IsLocalRun (lock_holder start) (local_of table start) s (local_of table after.now)) same after.leads)
    (subst (λ (s : Run). MayKill asks_a_page (transition table start s after.now) after.killed) same after.may)
