use Rattle.std.proofs.Common.{Bor, List, ℕ, map, true}
use Rattle.script_replay.specs.{system_state, terms}
use Rattle.load_run.proofs.Logged.{logs_more, logs_text}
use Rattle.load_run.proofs.logging.log_each.Goals as goal

pub loop-next-preserved : goal.loop-next-preserved
loop-next-preserved g c =
    let on = terms g.N.BootName.table true in
    let texts = map (λ (text : Bor (List ℕ)). text.now) c.args.texts.now in
    let m = system_state c.loop-next.locked c.loop-next.cpus in
    let e = system_state c.log_line.new.locked c.log_line.new.cpus in
    let adds = c.in_ok-log_line.ensures.logged in
    logs_more on texts c.args.lines.now c.loop-next.next-index _ (system_state c.args.locked.now c.args.cpus.now) m e _ _ _ adds.part c.loop-next-test.true
    c.loop-next.invariant (logs_text on texts m e c.text_of.result.now c.text_of.ensures adds.so) adds.added
