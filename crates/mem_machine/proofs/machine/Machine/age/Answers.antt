use Rattle.std.proofs.Common.{◌<◌, ◌≤◌, length, rules}
use Rattle.mem_machine.proofs.OneGroup.{change_all, ages_beyond, ages_group}
use Rattle.mem_machine.proofs.Clean.{clean_owners}
use Rattle.mem_machine.proofs.machine.Machine.age.Goals as goal

pub invariant_of-self : goal.invariant_of-self
invariant_of-self g c =
    let there : c.number-owner.result < length c.self.inside.lists.items = search rules in
    let a = c.age.ensures in record {
      consistent = (change_all g.N.BootName.table _ _ c.self.view_is c.self.invariant.consistent c.args.group _ there
          c.number-owner.ensures.value _ _ c.index_mut.ensures.value _ _ a.linked a.owner a.others a.owners c.others_stay_linked.ensures
          c.one_of_all_changes.ensures).consistent;
      free = c.self.invariant.free;
      clean = clean_owners _ _ _ _ a.owners c.self.invariant.clean;
      sums = c.self.invariant.sums;
      owners = c.self.invariant.owners;
    }

pub returns-clause-ages : goal.returns-clause-ages
returns-clause-ages g c =
    let there : c.number-owner.result < length c.self.inside.lists.items = search rules in
    let a = c.age.ensures in
    ages_group g.N.BootName.table _ _ c.self.view_is c.args.group _ _ _
    (change_all g.N.BootName.table _ _ c.self.view_is c.self.invariant.consistent c.args.group _ there
    c.number-owner.ensures.value _ _ c.index_mut.ensures.value _ _ a.linked a.owner a.others a.owners c.others_stay_linked.ensures c.one_of_all_changes.ensures) a.ages

pub returns-clause-steps : goal.returns-clause-steps
returns-clause-steps g c =
    let there : c.number-owner.result < length c.self.inside.lists.items = search rules in
    let a = c.age.ensures in
    (change_all g.N.BootName.table _ _ c.self.view_is c.self.invariant.consistent c.args.group _ there
    c.number-owner.ensures.value _ _ c.index_mut.ensures.value _ _ a.linked a.owner a.others a.owners c.others_stay_linked.ensures c.one_of_all_changes.ensures).steps

pub returns-then-owner-len : goal.returns-then-owner-len
returns-then-owner-len g c =
    let past : length c.self.inside.lists.items ≤ c.number-owner.result = search rules in
    let both = ages_beyond g.N.BootName.table _ _ c.self.view_is c.args.group _ past c.number-owner.ensures.value in
    record { ages = both.0; steps = both.1 }
