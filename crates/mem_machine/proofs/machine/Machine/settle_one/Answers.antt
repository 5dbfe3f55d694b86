use Rattle.std.proofs.Common.{◌≡◌, ◌≤◌, ◌∙◌, Some, length, true, false, arith, rules, sym}
use Rattle.mem_machine.specs.{machine_of, is_killed, stock_group}
use Rattle.mem_machine.proofs.Settled.{number_here, owner_here, settles_kept, settles_dropped, some_owner, steps_of}
use Rattle.mem_machine.proofs.machine.Machine.settle_one.Goals as goal

pub group-requires : goal.group-requires
group-requires g c =
    let range = number_here g.N.BootName.table (machine_of c.self.inside) _ c.self.view_is c.args.cpu.now c.requires in
    let few = c.self.invariant.owners.few in
    let named = c.number.ensures.number in
    omega (arith, range, few, named)

pub unreachable-requires : goal.unreachable-requires
unreachable-requires g c =
    let some : 1 ≤ length c.args.cpu.now.fresh = search rules in
    some_owner g.N.BootName.table (machine_of c.self.inside) _ c.self.view_is c.args.cpu.now c.requires _ c.self.invariant.owners c.number.result c.number.ensures.number some c.in_default.ensures

pub returns-then-is_killed : goal.returns-then-is_killed
returns-then-is_killed g c =
    let owner : stock_group g.N.BootName.table c.args.self.now c.args.cpu.now.number ≡ Some c.in-Some.group =
    sym (owner_here g.N.BootName.table (machine_of c.self.inside) _ c.self.view_is c.args.cpu.now c.requires _ c.self.invariant.owners c.number.result c.number.ensures.number)
    ∙ sym c.in-Some.ensures in
    let killed : is_killed c.args.self.now.killed c.in-Some.group ≡ true = search rules in
    record {
      settles = settles_dropped g.N.BootName.table _ c.in-Some.group c.args.self.now c.args.cpu.now _ _ owner killed c.drop_one.ensures.drops;
      visit = search rules;
      steps = steps_of g.N.BootName.table _ c.in-Some.group c.args.self.now c.args.cpu.now _ owner true killed c.drop_one.ensures.steps;
    }

pub returns-else-is_killed-clause-settles : goal.returns-else-is_killed-clause-settles
returns-else-is_killed-clause-settles g c =
    let owner : stock_group g.N.BootName.table c.args.self.now c.args.cpu.now.number ≡ Some c.in-Some.group =
    sym (owner_here g.N.BootName.table (machine_of c.self.inside) _ c.self.view_is c.args.cpu.now c.requires _ c.self.invariant.owners c.number.result c.number.ensures.number)
    ∙ sym c.in-Some.ensures in
    let alive : is_killed c.args.self.now.killed c.in-Some.group ≡ false = search rules in
    settles_kept g.N.BootName.table _ c.in-Some.group c.args.self.now c.args.cpu.now _ _ owner alive c.keep_one.ensures.keeps

pub returns-else-is_killed-clause-steps : goal.returns-else-is_killed-clause-steps
returns-else-is_killed-clause-steps g c =
    let owner : stock_group g.N.BootName.table c.args.self.now c.args.cpu.now.number ≡ Some c.in-Some.group =
    sym (owner_here g.N.BootName.table (machine_of c.self.inside) _ c.self.view_is c.args.cpu.now c.requires _ c.self.invariant.owners c.number.result c.number.ensures.number)
    ∙ sym c.in-Some.ensures in
    let alive : is_killed c.args.self.now.killed c.in-Some.group ≡ false = search rules in
    steps_of g.N.BootName.table _ c.in-Some.group c.args.self.now c.args.cpu.now _ owner false alive c.keep_one.ensures.steps

pub drop_one-requires-clause-group : goal.drop_one-requires-clause-group
drop_one-requires-clause-group g c =
    let owner : stock_group g.N.BootName.table c.args.self.now c.args.cpu.now.number ≡ Some c.in-Some.group =
    sym (owner_here g.N.BootName.table (machine_of c.self.inside) _ c.self.view_is c.args.cpu.now c.requires _ c.self.invariant.owners c.number.result c.number.ensures.number)
    ∙ sym c.in-Some.ensures in
    owner

pub keep_one-requires-clause-group : goal.keep_one-requires-clause-group
keep_one-requires-clause-group g c =
    let owner : stock_group g.N.BootName.table c.args.self.now c.args.cpu.now.number ≡ Some c.in-Some.group =
    sym (owner_here g.N.BootName.table (machine_of c.self.inside) _ c.self.view_is c.args.cpu.now c.requires _ c.self.invariant.owners c.number.result c.number.ensures.number)
    ∙ sym c.in-Some.ensures in
    owner

pub drop_one-requires-clause-killed : goal.drop_one-requires-clause-killed
drop_one-requires-clause-killed g c =
    search rules
