use Rattle.std.proofs.Common.{rules}
use Rattle.script_lines.proofs.script.first_number_past_limit.Goals as goal

pub returns : goal.returns
returns c = search rules
