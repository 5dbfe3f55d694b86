-- Each step goes on the run, and in the end all steps were made.
use Rattle.std.proofs.Common.{◌≡◌, ◌+◌, ◌≤◌, [], ◌∷◌, ◌++◌, length, take, sym, ◌∙◌, ap, subst, arith, length-append}
use Rattle.std.specs.List.{zip}
use Rattle.step_rules.specs.declared.step.Step.{Step}
use Rattle.step_rules.specs.{Zone, Run, IsLegalRun, pushed}
use Rattle.mem_core.proofs.Playing.{PlaysOn, PlaysOn-start, PlaysOn-step, PlaysOn-all, zip-take_more, length-zip-take}
use Rattle.mem_core.specs.Shown.{zone_of_config}
use Rattle.mem_core.proofs.Keeping.{keeps_promise, always_keeps}
use Rattle.mem_core.proofs.run.play.Goals as goal

pub loop-step-init : goal.loop-step-init
loop-step-init c = record {
  one_each = ap length c.in_ok-answers.ensures.items;
  room = c.in_ok-answers.ensures.capacity;
  plays = PlaysOn-start (zone_of_config c.args.config) c.in_ok-core.core c.in_ok-core.ensures.zone c.in_ok-core.ensures.empty c.in_ok-core.ensures.areas;
}

pub step-requires : goal.step-requires
step-requires c =
    let so_far = c.loop-step.invariant in
    let i = c.loop-step.step-index in
    let len = length-zip-take c.args.steps.now c.loop-step.answers.items i (let h = c.loop-step-test.true in omega arith) so_far.one_each in
    let steps = so_far.plays.shows.steps in
    omega arith

pub loop-step-preserved : goal.loop-step-preserved
loop-step-preserved c =
    let so_far = c.loop-step.invariant in
    let i = c.loop-step.step-index in
    let steps = c.args.steps.now in
    let answers = c.loop-step.answers.items in
    let step = c.step-item.result in
    let answer = c.step.result in
    let run : Run = zip (take i steps) answers in
    let pushes : c.push_reserved.new.self.items ≡ answers ++ answer ∷ [] = c.push_reserved.ensures.items in
    let more : zip (take (i + 1) steps) c.push_reserved.new.self.items ≡ pushed run step answer =
    ap (zip (take (i + 1) steps)) pushes
    ∙ zip-take_more steps answers i step answer c.loop-step-test.true so_far.one_each
    ∙ ap (λ (x : Step). pushed run x answer) (sym c.step-item.is) in
    let goes_on = PlaysOn-step (zone_of_config c.args.config) c.loop-step.core c.step.new.self run step answer so_far.plays
    c.step.ensures.first c.step.ensures.zone (c.step.ensures.shows run so_far.plays.shows) c.step.ensures.areas in
    record {
      room = subst (λ n. length steps ≤ n) (sym c.push_reserved.ensures.capacity) so_far.room;
      one_each = ap length pushes ∙ length-append answers (answer ∷ []) ∙ ap (λ n. n + 1) so_far.one_each;
      plays = subst (PlaysOn (zone_of_config c.args.config) c.step.new.self) (sym more) goes_on;
    }

all : (c : goal.After-loop-step) → PlaysOn (zone_of_config c.args.config) c.loop-step.core (zip c.args.steps.now c.loop-step.answers.items)
all c =
    PlaysOn-all (zone_of_config c.args.config) c.loop-step.core c.args.steps.now c.loop-step.answers.items
    c.loop-step.step-index c.loop-step-test.false c.loop-step.invariant.plays

pub returns-clause-first : goal.returns-clause-first
returns-clause-first c = (all c).first

pub returns-clause-promise : goal.returns-clause-promise
returns-clause-promise c =
    let run : Run = zip c.args.steps.now c.loop-step.answers.items in
    always_keeps (zone_of_config c.args.config) run (subst (λ (z : Zone). IsLegalRun z run) (all c).sizes (all c).shows.legal)

pub returns-clause-promise_shown : goal.returns-clause-promise_shown
returns-clause-promise_shown c = keeps_promise c.loop-step.core (zip c.args.steps.now c.loop-step.answers.items) (all c).shows (all c).areas
