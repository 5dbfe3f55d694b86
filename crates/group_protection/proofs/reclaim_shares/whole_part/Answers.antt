use Rattle.std.proofs.Common.{refl}
use Rattle.group_protection.proofs.Parting.{part_at_most}
use Rattle.group_protection.proofs.reclaim_shares.whole_part.Goals as goal

pub returns-clause-at_most : goal.returns-clause-at_most
returns-clause-at_most c = rw (c.from.ensures, c.from-2.ensures, c.from-3.ensures) (part_at_most c.args.shared c.args.available c.args.total c.requires)

pub returns-clause-part : goal.returns-clause-part
returns-clause-part c = rw (c.from.ensures, c.from-2.ensures, c.from-3.ensures) refl
