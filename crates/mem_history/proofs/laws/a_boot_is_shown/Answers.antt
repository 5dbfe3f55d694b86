use Rattle.mem_history.proofs.Booting.{a_boot_is_shown}
use Rattle.mem_history.proofs.laws.a_boot_is_shown.Goals as goal

pub returns : goal.returns
returns c = a_boot_is_shown
