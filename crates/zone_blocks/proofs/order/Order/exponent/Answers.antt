use Rattle.std.proofs.Common.{rules}
use Rattle.zone_blocks.proofs.order.Order.exponent.Goals as goal

pub returns-clause-exponent : goal.returns-clause-exponent
returns-clause-exponent c = search rules

pub returns-clause-at_most : goal.returns-clause-at_most
returns-clause-at_most c = search rules
