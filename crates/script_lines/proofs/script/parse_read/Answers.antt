use Rattle.std.proofs.Common.{rules}
use Rattle.script_lines.proofs.Readings.{on_none, read_file}
use Rattle.script_lines.proofs.script.parse_read.Goals as goal

pub returns-in_err-path : goal.returns-in_err-path
returns-in_err-path c = on_none _ _ _ c.from_residual.ensures (λ path file is. c.in_err-path.ensures path file is.path_text is.parts)

pub returns-in_err-path_of : goal.returns-in_err-path_of
returns-in_err-path_of c = on_none _ _ _ c.from_residual-in_err-path_of.ensures
    (λ path file is. c.in_err-path_of.ensures (read_file _ _ _ c.in_ok-path.ensures.1 path file is))

pub returns : goal.returns
returns c = search rules
