use Rattle.std.proofs.Common.{rules}
use Rattle.control_files.proofs.flag.flag_of.Goals as goal

pub returns-then-eq : goal.returns-then-eq
returns-then-eq c = search rules

pub returns-then-eq-2 : goal.returns-then-eq-2
returns-then-eq-2 c = search rules

pub returns-else-eq-2 : goal.returns-else-eq-2
returns-else-eq-2 c = search rules
