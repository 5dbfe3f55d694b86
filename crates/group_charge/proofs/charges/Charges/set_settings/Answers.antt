use Rattle.std.proofs.Common.{ap, ◌∙◌}
use Rattle.group_charge.specs.{with_settings, ledger_of}
use Rattle.group_charge.proofs.charges.Charges.set_settings.Goals as goal

pub returns : goal.returns
returns c =
    ap (ledger_of c.self.inside.tree c.self.inside.accounts.items) c.set.ensures
    ∙ ap (λ l. with_settings l c.args.group c.args.settings) c.self.view_is

pub invariant_of-self : goal.invariant_of-self
invariant_of-self c = let charges = c.self.invariant.charges in let usages = c.self.invariant.usages_are in record {
  charges = record { groups = charges.groups; numbers = charges.numbers; fits = charges.fits; peaks = charges.peaks };
  size = c.self.invariant.size;
  usages_are = record { size = usages.size; sums = usages.sums };
}
