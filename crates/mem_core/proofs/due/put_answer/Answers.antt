-- The seat has one of the references, so there is one.
use Rattle.std.proofs.Common.{arith}
use Rattle.mem_core.specs.Rows.{state_in}
use Rattle.mem_core.proofs.Serving.{put_counts}
use Rattle.mem_core.proofs.due.put_answer.Goals as goal

pub overflow_sub-result : goal.overflow_sub-result
overflow_sub-result c =
    let some = put_counts (state_in c.args.rows.now) c.args.seat c.args.frame c.requires.legal in
    let live = c.live_references-live.ensures in
    omega arith

pub returns-else-live-eq1 : goal.returns-else-live-eq1
returns-else-live-eq1 c =
    let some = put_counts (state_in c.args.rows.now) c.args.seat c.args.frame c.requires.legal in
    let live = c.live_references-live.ensures in
    let other = c.if-live-eq1.false in
    record { legal = c.requires.legal; answered = tt; counted = (omega arith, omega arith) }
