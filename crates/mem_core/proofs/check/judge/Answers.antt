-- Each step goes on the run, or is the first that isn't allowed.
use Rattle.mem_core.specs.Shown.{state_shown}
use Rattle.mem_core.proofs.Checking.{follows_on, first_illegal, all_legal}
use Rattle.mem_core.proofs.check.judge.Goals as goal

pub loop-index-init : goal.loop-index-init
loop-index-init c = record { steps = c.requires.steps; legal = λ k. tt; state = c.requires.state }

pub returns-in-Err : goal.returns-in-Err
returns-in-Err c =
    first_illegal (state_shown c.args.checker.now).zone
    c.loop-index.checker c.args.log.now c.loop-index.index c.index-log-index.result
    c.in-Err.expected c.loop-index-test.true c.index-log-index.is c.loop-index.invariant c.in-Err.ensures.denied c.in-Err.ensures.refused

pub loop-index-preserved : goal.loop-index-preserved
loop-index-preserved c =
    follows_on (state_shown c.args.checker.now).zone c.loop-index.checker c.accept.new.self c.args.log.now c.loop-index.index c.index-log-index.result
    c.loop-index-test.true c.index-log-index.is c.loop-index.invariant c.in_default.ensures.accepted c.in_default.ensures.counted

pub returns : goal.returns
returns c =
    all_legal (state_shown c.args.checker.now).zone c.loop-index.checker c.args.log.now c.loop-index.index c.loop-index-test.false c.loop-index.invariant
