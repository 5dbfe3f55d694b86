use Rattle.std.proofs.Common.{length}
use Rattle.script_replay.proofs.Owning.{lines_name}
use Rattle.script_replay.proofs.threads.run_each.Goals as goal

pub run_from-requires-clause-lines : goal.run_from-requires-clause-lines
run_from-requires-clause-lines g c = λ κs. λ within. lines_name g.N.BootName.table.frames (length c.args.cpus.now) c.args.lines.now c.requires.lines
