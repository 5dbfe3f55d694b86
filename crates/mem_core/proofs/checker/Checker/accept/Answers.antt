-- An accepted step was made with its answer. A refused one left the rows as they were.
use Rattle.std.proofs.Common.{◌≡◌, ℕ, ◌+◌, ◌*◌, ◌^◌, ◌<◌, [], sym, ◌∙◌, ap, subst, arith}
use Rattle.step_rules.specs.State.{Zone, State}
use Rattle.step_rules.specs.Legal.{Allows}
use Rattle.mem_core.specs.declared.rows.Rows.{Rows}
use Rattle.mem_core.specs.Rows as rows
use Rattle.mem_core.specs.{pages_asked, IsBounded, CoreState, state_shown, Leads, rows_shown}
use Rattle.mem_core.proofs.Linking.{rows_are, ready}
use Rattle.mem_core.proofs.Checking.{kept}
use Rattle.mem_core.proofs.checker.Checker.accept.Goals as goal

pub take-taken-requires-clause-bounded : goal.take-taken-requires-clause-bounded
take-taken-requires-clause-bounded c =
    let few = c.self.invariant.few in
    ready c.self.inside.rows (c.self.inside.steps * 2 ^ 32) (omega arith) c.self.invariant.fits c.self.invariant.sound c.self.invariant.bounded

pub invariant_of-self : goal.invariant_of-self
invariant_of-self c =
    let s = rows.state_in c.self.inside.rows in
    let t = rows.state_in c.take-taken.new.rows in
    let n = c.self.inside.steps in
    let asked : pages_asked c.args.step.now.action < 2 ^ 32 = let a = c.pages_asked.ensures.pages in let b = c.pages_asked.ensures.few in omega arith in
    let holds = kept (n * 2 ^ 32) s t c.args.step.now c.args.answer.now c.self.invariant.sound c.self.invariant.homed c.self.invariant.bounded asked
    c.in-Ok.ensures.accepted in
    let count : n * 2 ^ 32 + 2 ^ 32 ≡ (n + 1) * 2 ^ 32 = omega arith in
    let frames : t.zone.frames ≡ s.zone.frames = ap (λ (z : Zone). z.frames) holds.zone in
    record {
      fits = c.take-taken.ensures.fits;
      sound = holds.sound;
      homed = holds.homed;
      bounded = subst (λ (m : ℕ). IsBounded m t) count holds.bounded;
      few = subst (λ (x : CoreState). x.steps + 1 < 2 ^ 64) (sym c.self.view_is) c.requires;
      frames = c.take-taken.ensures.frames ∙ c.self.invariant.frames ∙ sym frames;
      room = let a = c.take-taken.ensures.room in let b = c.self.invariant.room in omega arith;
    }

-- what a checker shows is what its rows show
shown_by : (r : Rows) (steps : ℕ) (shown : CoreState) → rows_shown r [] [] steps ≡ shown → rows.state_in r ≡ state_shown shown
shown_by r steps shown is = sym (rows_are r [] [] steps) ∙ ap state_shown is

pub returns-in-Ok-clause-accepted : goal.returns-in-Ok-clause-accepted
returns-in-Ok-clause-accepted c =
    subst (λ (t : State). Leads (state_shown c.args.self.now) c.args.step.now c.args.answer.now t)
    (sym (rows_are c.take-taken.new.rows [] [] (c.self.inside.steps + 1)))
    (subst (λ (s : State). Leads s c.args.step.now c.args.answer.now (rows.state_in c.take-taken.new.rows))
    (shown_by c.self.inside.rows c.self.inside.steps c.args.self.now c.self.view_is) c.in-Ok.ensures.accepted)

pub returns-in-Err-clause-refused : goal.returns-in-Err-clause-refused
returns-in-Err-clause-refused c =
    subst (λ (s : State). Allows s c.args.step.now.seat c.args.step.now.action c.in-Err.due)
    (shown_by c.self.inside.rows c.self.inside.steps c.args.self.now c.self.view_is) c.in-Err.ensures.refused

pub returns-in-Err-clause-denied : goal.returns-in-Err-clause-denied
returns-in-Err-clause-denied c =
    subst (λ (s : State). ¬ Allows s c.args.step.now.seat c.args.step.now.action c.args.answer.now)
    (shown_by c.self.inside.rows c.self.inside.steps c.args.self.now c.self.view_is) c.in-Err.ensures.denied
