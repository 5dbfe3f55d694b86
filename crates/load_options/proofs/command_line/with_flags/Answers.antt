use Rattle.load_options.specs.Words.{flag_rule}
use Rattle.load_options.proofs.Rules.{last_of, next_of}
use Rattle.load_options.proofs.command_line.with_flags.Goals as goal

pub loop-name-preserved : goal.loop-name-preserved
loop-name-preserved c = record {
  shape = next_of (λ flag. flag_rule flag.0.now) c.args.flags.now c.loop-name.name-index _ _ _ _ c.loop-name-test.true c.loop-name.invariant.shape c.in_ok-command.ensures.shape;
  local = c.in_ok-command.ensures.local;
}

pub returns-clause-shape : goal.returns-clause-shape
returns-clause-shape c = last_of (λ flag. flag_rule flag.0.now) c.args.flags.now c.loop-name.name-index _ _ c.loop-name-test.false c.loop-name.invariant.shape
