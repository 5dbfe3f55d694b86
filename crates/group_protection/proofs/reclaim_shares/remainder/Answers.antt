use Rattle.std.proofs.Common.{refl}
use Rattle.group_protection.proofs.reclaim_shares.remainder.Goals as goal

pub returns : goal.returns
returns c = rw (c.from.ensures, c.from-2.ensures, c.from-3.ensures) refl
