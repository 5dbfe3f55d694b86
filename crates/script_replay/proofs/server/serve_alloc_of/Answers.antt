use Rattle.std.proofs.Common.{◌≡◌, ◌≢◌, ℕ, rules, subst, sym}
use Rattle.mem_system.specs.{locked_state}
use Rattle.script_lines.specs.declared.line.Command.TheVariants.{Alloc}
use Rattle.script_replay.specs.{ServesAnswer, terms}
use Rattle.script_replay.proofs.Serving.{block_served}
use Rattle.script_replay.proofs.server.serve_alloc_of.Goals as goal

pub returns-then-order-eq0-clause-answer : goal.returns-then-order-eq0-clause-answer
returns-then-order-eq0-clause-answer g c path is =
    let single : c.args.order ≡ 0 = search rules in
    let served = c.serve_frame_of in
    subst (λ (k : ℕ). ServesAnswer (terms g.N.BootName.table c.args.is_explained) (Alloc path k) (locked_state c.args.locked.now c.args.cpu.now)
    (locked_state served.new.locked served.new.cpu) served.result) (sym single) (served.ensures.answer path is)

pub returns-else-order-eq0-clause-answer : goal.returns-else-order-eq0-clause-answer
returns-else-order-eq0-clause-answer g c path is =
    let block : c.args.order ≢ 0 = search rules in
    block_served (terms g.N.BootName.table c.args.is_explained) path c.args.order c.args.locked.now _ c.args.cpu.now _ _ block (c.alloc_under_lock.ensures.served path is)
