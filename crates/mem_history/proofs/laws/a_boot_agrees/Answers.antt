use Rattle.mem_history.proofs.Agreeing.{a_boot_agrees}
use Rattle.mem_history.proofs.laws.a_boot_agrees.Goals as goal

pub returns : goal.returns
returns c = a_boot_agrees
