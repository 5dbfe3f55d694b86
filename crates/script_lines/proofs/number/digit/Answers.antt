use Rattle.std.proofs.Common.{rules}
use Rattle.script_lines.proofs.number.digit.Goals as goal

pub returns-then-digit-lt10 : goal.returns-then-digit-lt10
returns-then-digit-lt10 c = search rules
