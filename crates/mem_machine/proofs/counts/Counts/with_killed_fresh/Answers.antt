use Rattle.std.proofs.Common.{rules}
use Rattle.mem_machine.proofs.counts.Counts.with_killed_fresh.Goals as goal

pub returns : goal.returns
returns c = search rules
