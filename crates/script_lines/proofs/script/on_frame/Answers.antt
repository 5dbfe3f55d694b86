use Rattle.std.proofs.Common.{rules}
use Rattle.script_lines.proofs.script.on_frame.Goals as goal

pub returns-in-Get : goal.returns-in-Get
returns-in-Get c = search rules

pub returns-in-OnFrame : goal.returns-in-OnFrame
returns-in-OnFrame c = search rules
