use Rattle.std.proofs.Common.{subst}
use Rattle.mem_system.specs.declared.command.LockedCommand.TheVariants.{Dirty}
use Rattle.mem_system.specs.declared.outcome.Outcome.{Outcome}
use Rattle.mem_system.specs.Visits.{IsServed, LockedState, locked_state}
use Rattle.mem_system.proofs.Dirtying.{dirty_done, given_inside}
use Rattle.mem_system.proofs.dirty_allocs.serve_dirty_alloc.Goals as goal

pub serve_outcome-done-requires : goal.serve_outcome-done-requires
serve_outcome-done-requires g c =
    let start : LockedState = locked_state c.args.locked.now c.args.cpu.now in
    let now : LockedState = locked_state c.serve_outcome-outcome.new.locked c.serve_outcome-outcome.new.cpu in
    given_inside g.N.BootName.table c.args.group c.in-Frame.frame start now c.args.order c.in-Frame.ensures.served
    c.in-Frame.ensures.settled.0 c.prove_quiet.ensures.consistent

pub returns-clause-served : goal.returns-clause-served
returns-clause-served g c =
    let t = g.N.BootName.table in
    let start : LockedState = locked_state c.args.locked.now c.args.cpu.now in
    let now : LockedState = locked_state c.serve_outcome-outcome.new.locked c.serve_outcome-outcome.new.cpu in
    let end : LockedState = locked_state c.serve_outcome-done.new.locked c.serve_outcome-done.new.cpu in
    let served = c.in-Frame.ensures.served in
    let settled = c.in-Frame.ensures.settled in
    let noted = c.serve_outcome-done.ensures.served in
    record {
      between = now;
      allocates = served;
      notes = subst (λ (o : Outcome). IsServed t (Dirty c.in-Frame.frame) o now end)
          (dirty_done t c.args.group c.in-Frame.frame start now c.args.order served settled.0 settled.1 _ end noted) noted;
    }
