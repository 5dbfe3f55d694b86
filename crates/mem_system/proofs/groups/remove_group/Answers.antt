use Rattle.std.proofs.Common.{rules, ◌≡◌, ◌++◌, sym, ◌∙◌, refl, subst, arith}
use Rattle.group_charge.specs.Charges.{Ledger}
use Rattle.mem_machine.specs.Steps.{remove_steps}
use Rattle.mem_machine.proofs.Followed.{makes_both}
use Rattle.mem_reclaim.proofs.Grown.{held_after}
use Rattle.mem_system.specs.Leaves.{IsLeaf, IsNoLeaf}
use Rattle.mem_system.proofs.Keeping.{lowered_groups, leaf_keeps}
use Rattle.mem_system.proofs.Refusing.{none_removed}
use Rattle.mem_system.proofs.groups.remove_group.Goals as goal

pub current-requires : goal.current-requires
current-requires g c =
    let leaf = subst (λ (l : Ledger). IsLeaf l.groups c.args.group) c.charges.ensures c.in_default.ensures in
    (leaf_keeps _ _ _ (lowered_groups g.N.BootName.table _ _ _ _ c.lower_usage.ensures.lowers) c.requires.there leaf).0

pub remove-requires-clause-there : goal.remove-requires-clause-there
remove-requires-clause-there g c =
    let leaf = subst (λ (l : Ledger). IsLeaf l.groups c.args.group) c.charges.ensures c.in_default.ensures in
    (leaf_keeps _ _ _ (lowered_groups g.N.BootName.table _ _ _ _ c.lower_usage.ensures.lowers) c.requires.there leaf).0

pub remove-requires-clause-leaf : goal.remove-requires-clause-leaf
remove-requires-clause-leaf g c =
    let leaf = subst (λ (l : Ledger). IsLeaf l.groups c.args.group) c.charges.ensures c.in_default.ensures in
    (leaf_keeps _ _ _ (lowered_groups g.N.BootName.table _ _ _ _ c.lower_usage.ensures.lowers) c.requires.there leaf).1

pub remove-requires-clause-held : goal.remove-requires-clause-held
remove-requires-clause-held g c =
    let lowers = c.lower_usage.ensures.lowers in
    held_after g.N.BootName.table c.args.machine.now lowers.steps c.lower_usage.new.machine lowers.makes c.requires.held

pub returns-clause-removed : goal.returns-clause-removed
returns-clause-removed g c =
    let leaf = subst (λ (l : Ledger). IsLeaf l.groups c.args.group) c.charges.ensures c.in_default.ensures in
    let lowers = c.lower_usage.ensures.lowers in record {
      steps = lowers.steps ++ remove_steps c.args.group;
      does = record {
        leaf = leaf;
        lowering = lowers.steps;
        emptied = c.lower_usage.new.machine;
        lowers = lowers.does;
        empty = sym c.current.ensures ∙ (let e : c.current.result ≡ 0 = omega arith in e);
        machine = c.remove.ensures.machine;
        steps_are = refl;
      };
      makes = makes_both g.N.BootName.table lowers.steps (remove_steps c.args.group) c.args.machine.now c.lower_usage.new.machine
          c.remove.new.self lowers.makes c.remove.ensures.steps;
    }

pub returns-clause-visit : goal.returns-clause-visit
returns-clause-visit g c = λ y v. c.remove.ensures.visit y (c.lower_usage.ensures.visit y v)

pub returns-then-current-gt0-clause-removed : goal.returns-then-current-gt0-clause-removed
returns-then-current-gt0-clause-removed g c = search rules

pub returns-in-Err-clause-removed : goal.returns-in-Err-clause-removed
returns-in-Err-clause-removed g c =
    none_removed g.N.BootName.table c.args.group c.in-Err.fault c.args.machine.now
    (subst (λ (l : Ledger). IsNoLeaf l.groups c.args.group c.in-Err.fault) c.charges.ensures c.in-Err.ensures)
