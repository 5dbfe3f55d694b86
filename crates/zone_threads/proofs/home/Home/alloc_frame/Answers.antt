use Rattle.std.proofs.Common.{inr, refl, rules}
use Rattle.zone_threads.specs.Calling.{MissesFast, NoGroupBehind, ServesAct}
use Rattle.zone_threads.specs.declared.calls.GroupAct.TheVariants.{Alloc}
use Rattle.zone_threads.specs.{ServesBehind, UnderLock}
use Rattle.zone_threads.proofs.Visited.{no_group, then_served}
use Rattle.zone_threads.proofs.home.Home.alloc_frame.Goals as goal

pub returns-in-Ok : goal.returns-in-Ok
returns-in-Ok g c =
    then_served (MissesFast c.args.group)
    (UnderLock (ServesBehind g.N.BootName.table (ServesAct g.N.BootName.table c.args.group (Alloc 0) c.in-Ok.outcome)))
    c.args.self.now _ c.serve_act.new.self c.in-Some.cpu c.take_listed.new.cpu (search rules) refl (search rules) (search rules) (search rules)
    c.in-Ok.ensures

pub returns-in-Err-NoGroup : goal.returns-in-Err-NoGroup
returns-in-Err-NoGroup g c =
    inr (then_served (MissesFast c.args.group) (UnderLock (NoGroupBehind g.N.BootName.table c.args.group))
    c.args.self.now _ c.serve_act.new.self c.in-Some.cpu c.take_listed.new.cpu (search rules) refl (search rules) (search rules) (search rules)
    (no_group g.N.BootName.table c.args.group c.in-Err-NoGroup.field-0 _ _ c.in-Err-NoGroup.field-0-is c.in-Err-NoGroup.ensures))
