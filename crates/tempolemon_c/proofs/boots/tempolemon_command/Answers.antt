-- Serves the contract of `tempolemon_command`: each status is at its place in the list, and the answers are stored.
use Rattle.std.proofs.Common.{refl, arith, rules}
use Rattle.tempolemon_c.specs.Behind.{behind}
use Rattle.tempolemon_c.proofs.boots.tempolemon_command.Goals as goal

pub returns-else-copy_answers-clause-statuses : goal.returns-else-copy_answers-clause-statuses
returns-else-copy_answers-clause-statuses c = (3, omega arith, refl)

pub returns-else-copy_answers-clause-too_small : goal.returns-else-copy_answers-clause-too_small
returns-else-copy_answers-clause-too_small c = λ e. record {
  text = c.in-Text.told.items;
  is = record {
    between = behind c.ask.new.self;
    lines = search rules;
    stores = search rules;
  };
  needed_is = search rules;
  exceeds = search rules;
}

pub returns-in-BadLine-clause-statuses : goal.returns-in-BadLine-clause-statuses
returns-in-BadLine-clause-statuses c = (2, omega arith, refl)
