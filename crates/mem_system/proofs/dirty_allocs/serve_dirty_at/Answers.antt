use Rattle.std.proofs.Common.{◌≡◌, Some, rules, inl, inr, refl}
use Rattle.group_tree.specs.Groups.{number_at}
use Rattle.mem_system.proofs.Found.{found_there}
use Rattle.mem_system.proofs.dirty_allocs.serve_dirty_at.Goals as goal

pub serve_dirty_alloc-requires : goal.serve_dirty_alloc-requires
serve_dirty_alloc-requires g c =
    let found : number_at c.args.locked.now.machine.ledger.groups c.args.path.now ≡ Some c.in-Some.group = search rules in
    found_there _ _ _ found

pub returns-in-Some-clause-served : goal.returns-in-Some-clause-served
returns-in-Some-clause-served g c = inl (record {
  group = c.in-Some.group;
  found = search rules;
  serves = c.serve_dirty_alloc.ensures.served;
})

pub returns-in-None-clause-served : goal.returns-in-None-clause-served
returns-in-None-clause-served g c = inr (record {
  none = search rules;
  refused = refl;
  settles = c.serve_settle.ensures.served;
})
