use Rattle.std.proofs.Common.{rules}
use Rattle.step_watch.proofs.Watching.{watches_both}
use Rattle.mem_machine.proofs.lending.watch_lent.Goals as goal

pub returns : goal.returns
returns c = watches_both _ _ _ _ _ (c.take.ensures _ _ (search rules)) (c.take-2.ensures _ _ (search rules))
