use Rattle.std.proofs.Common.{◌≡◌, ◌≢◌, ℕ, subst, rules}
use Rattle.std.specs.Prelude.{Result}
use Rattle.mem_alloc.specs.declared.faults.AllocFault.{AllocFault}
use Rattle.mem_alloc.specs.{AllocatesFrame, AllocatesBlock}
use Rattle.mem_alloc.proofs.CallerLemmas.{frame_over_there, block_over_there}
use Rattle.mem_machine.specs.Local.{visit_state}
use Rattle.mem_system.specs.Commands.{transition}
use Rattle.mem_system.proofs.Allocating.{frame_fresh, block_fresh}
use Rattle.mem_system.proofs.allocations.allocate_as.Goals as goal

pub returns-then-exponent-eq0-clause-there : goal.returns-then-exponent-eq0-clause-there
returns-then-exponent-eq0-clause-there g c =
    let t = g.N.BootName.table in
    let told = c.alloc_frame.ensures.allocates in
    λ h is. frame_over_there t c.args.sizes c.args.group h _ _ _ _ told.steps
    (subst (λ (r : Result ℕ AllocFault). AllocatesFrame c.args.sizes c.args.group r
    (transition t (visit_state c.args.machine.now c.args.cpu.now) told.steps (visit_state c.alloc_frame.new.machine c.alloc_frame.new.cpu))) is told.does)

pub returns-else-exponent-eq0-clause-there : goal.returns-else-exponent-eq0-clause-there
returns-else-exponent-eq0-clause-there g c =
    let t = g.N.BootName.table in
    let told = c.alloc_block.ensures.allocates in
    λ h is. block_over_there t c.args.group c.args.order h _ _ _ _ told.steps
    (subst (λ (r : Result ℕ AllocFault). AllocatesBlock c.args.group c.args.order r
    (transition t (visit_state c.args.machine.now c.args.cpu.now) told.steps (visit_state c.alloc_block.new.machine c.alloc_block.new.cpu))) is told.does)

pub returns-then-exponent-eq0-clause-fresh : goal.returns-then-exponent-eq0-clause-fresh
returns-then-exponent-eq0-clause-fresh g c =
    let single : c.args.order ≡ 0 = search rules in
    frame_fresh c.args.order c.alloc_frame.result c.alloc_frame.new.cpu.fresh single c.alloc_frame.ensures.fresh

pub returns-else-exponent-eq0-clause-fresh : goal.returns-else-exponent-eq0-clause-fresh
returns-else-exponent-eq0-clause-fresh g c =
    let block : c.args.order ≢ 0 = search rules in
    block_fresh c.args.order c.alloc_block.result c.alloc_block.new.cpu.fresh block c.alloc_block.ensures.fresh
