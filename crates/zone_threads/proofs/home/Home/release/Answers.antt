-- Serves `release`: what the CPU couldn't list is released under the lock.
use Rattle.std.proofs.Common.{refl, rules}
use Rattle.mem_system.specs.declared.text_command.TextCommand.TheVariants as command
use Rattle.mem_system.specs.{ServesText}
use Rattle.zone_threads.specs.{MissesDrop, ServesBehind, UnderLock}
use Rattle.zone_threads.proofs.Visited.{then_served}
use Rattle.zone_threads.proofs.home.Home.release.Goals as goal

pub returns-in-Some-serve : goal.returns-in-Some-serve
returns-in-Some-serve g c =
    then_served (MissesDrop c.args.number)
    (UnderLock (ServesBehind g.N.BootName.table (ServesText g.N.BootName.table (command.Release c.args.number) c.in-Some-serve.outcome)))
    c.args.self.now _ c.serve.new.self c.in-Some.cpu c.relist.new.cpu (search rules) refl (search rules) (search rules) (search rules)
    c.in-Some-serve.ensures.served
