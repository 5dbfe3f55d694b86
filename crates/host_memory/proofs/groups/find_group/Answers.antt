use Rattle.std.proofs.Common.{◌≡◌, Bool, true, false, refl}
use Rattle.group_tree.specs.Groups.{has_group}
use Rattle.group_tree.proofs.CallerLemmas.{number_below}
use Rattle.host_memory.proofs.groups.find_group.Goals as goal

pub returns-in_default-clause-none : goal.returns-in_default-clause-none
returns-in_default-clause-none c = missing (has_group c.args.charges.now.groups c.args.number) refl
  where
    missing : (there : Bool) → has_group c.args.charges.now.groups c.args.number ≡ there → has_group c.args.charges.now.groups c.args.number ≡ false
    missing false is = is
    missing true is = absurd (c.in_default.ensures (number_below c.args.charges.now.groups c.args.number c.tree-tree.ensures.legal.groups is))
