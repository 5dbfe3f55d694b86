use Rattle.std.proofs.Common.{subst, sym}
use Rattle.boot_words.specs.Pasts.{IsHolder}
use Rattle.cpu_part.specs.{KnownCpuLists, HasOwn}
use Rattle.cpu_part.proofs.Passing.{front_inside}
use Rattle.cpu_part.proofs.cpu_lists.CpuLists.take_front.Goals as goal

pub returns-clause-frame : goal.returns-clause-frame
returns-clause-frame g c =
    let own = subst (HasOwn _) (sym c.self.view_is) c.requires.own in
    let holder = subst (λ (k : KnownCpuLists). IsHolder c.args.held.now k.number) (sym c.self.view_is) c.requires.holder in
    front_inside g.N.BootName.table c.args.held.now _ own c.requires.held holder c.freshen.result c.freshen.new.list.items c.freshen.ensures.front
