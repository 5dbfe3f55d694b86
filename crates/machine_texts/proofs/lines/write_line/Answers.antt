use Rattle.std.proofs.Common.{rules}
use Rattle.machine_texts.proofs.lines.write_line.Goals as goal

pub returns-in-Stock : goal.returns-in-Stock
returns-in-Stock c = search rules
