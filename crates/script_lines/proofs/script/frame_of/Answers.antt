use Rattle.std.proofs.Common.{rules}
use Rattle.script_lines.proofs.script.frame_of.Goals as goal

pub returns-then-frame-sizes : goal.returns-then-frame-sizes
returns-then-frame-sizes c = search rules

pub returns-else-frame-sizes : goal.returns-else-frame-sizes
returns-else-frame-sizes c = search rules
