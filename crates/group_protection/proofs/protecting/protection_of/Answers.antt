use Rattle.std.proofs.Common.{sym, ◌∙◌}
use Rattle.group_protection.specs.Protections.{low_key, min_key}
use Rattle.group_protection.proofs.Effective.{nothing_set}
use Rattle.group_protection.proofs.protecting.protection_of.Goals as goal

pub returns-then-not-is_protecting-clause-min : goal.returns-then-not-is_protecting-clause-min
returns-then-not-is_protecting-clause-min c =
    sym (nothing_set min_key c.args.charges.now c.args.target c.args.group (sym c.is_protecting.ensures ∙ c.if-not-is_protecting.true))

pub returns-then-not-is_protecting-clause-low : goal.returns-then-not-is_protecting-clause-low
returns-then-not-is_protecting-clause-low c =
    sym (nothing_set low_key c.args.charges.now c.args.target c.args.group (sym c.is_protecting.ensures ∙ c.if-not-is_protecting.true))
