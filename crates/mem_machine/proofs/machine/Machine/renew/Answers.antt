use Rattle.std.proofs.Common.{arith}
use Rattle.mem_machine.proofs.OneGroup.{change_all, renewed_there, renews_unit}
use Rattle.mem_machine.proofs.Clean.{clean_owners}
use Rattle.mem_machine.proofs.machine.Machine.renew.Goals as goal

pub invariant_of-self : goal.invariant_of-self
invariant_of-self g c =
    let a = c.renew.ensures in record {
      consistent = (change_all g.N.BootName.table _ _ c.self.view_is c.self.invariant.consistent c.args.group _
          (renewed_there g.N.BootName.table _ _ c.self.view_is c.self.invariant.consistent c.args.head c.requires.frame c.args.group _ c.number-owner.ensures.value _ c.requires.home)
          c.number-owner.ensures.value _ _ c.index_mut.ensures.value _ _ a.linked a.owner a.others a.owners c.others_stay_linked.ensures
          c.one_of_all_changes.ensures).consistent;
      free = c.self.invariant.free;
      clean = clean_owners _ _ _ _ a.owners c.self.invariant.clean;
      sums = c.self.invariant.sums;
      owners = c.self.invariant.owners;
    }

pub returns-clause-renews : goal.returns-clause-renews
returns-clause-renews g c =
    let a = c.renew.ensures in
    renews_unit g.N.BootName.table _ _ c.self.view_is c.args.group c.args.head _ c.number-at.ensures _ _ _
    (change_all g.N.BootName.table _ _ c.self.view_is c.self.invariant.consistent c.args.group _
    (renewed_there g.N.BootName.table _ _ c.self.view_is c.self.invariant.consistent c.args.head c.requires.frame c.args.group _ c.number-owner.ensures.value _ c.requires.home)
    c.number-owner.ensures.value _ _ c.index_mut.ensures.value _ _ a.linked a.owner a.others a.owners c.others_stay_linked.ensures c.one_of_all_changes.ensures)
    a.inactive a.active

pub returns-clause-steps : goal.returns-clause-steps
returns-clause-steps g c =
    let a = c.renew.ensures in
    (change_all g.N.BootName.table _ _ c.self.view_is c.self.invariant.consistent c.args.group _
    (renewed_there g.N.BootName.table _ _ c.self.view_is c.self.invariant.consistent c.args.head c.requires.frame c.args.group _ c.number-owner.ensures.value _ c.requires.home)
    c.number-owner.ensures.value _ _ c.index_mut.ensures.value _ _ a.linked a.owner a.others a.owners c.others_stay_linked.ensures c.one_of_all_changes.ensures).steps

pub index_mut-requires : goal.index_mut-requires
index_mut-requires g c =
    let there = renewed_there g.N.BootName.table _ _ c.self.view_is c.self.invariant.consistent c.args.head c.requires.frame c.args.group _ c.number-owner.ensures.value _ c.requires.home in
    omega (arith, there)
