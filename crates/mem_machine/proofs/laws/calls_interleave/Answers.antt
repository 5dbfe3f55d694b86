use Rattle.mem_machine.proofs.Interleaves.{calls_interleave}
use Rattle.mem_machine.proofs.laws.calls_interleave.Goals as goal

pub returns : goal.returns
returns c = calls_interleave c.local_runs_interleave.ensures
