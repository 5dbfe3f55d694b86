use Rattle.std.proofs.Common.{rules}
use Rattle.script_lines.proofs.script.group_of.Goals as goal

pub returns-then-group-sizes : goal.returns-then-group-sizes
returns-then-group-sizes c = search rules

pub returns-else-group-sizes : goal.returns-else-group-sizes
returns-else-group-sizes c = search rules
