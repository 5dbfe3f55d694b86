use Rattle.step_rules.proofs.Counting.{books_are_counted}
use Rattle.step_rules.proofs.laws.books_are_counted.Goals as goal

pub returns : goal.returns
returns c = books_are_counted
