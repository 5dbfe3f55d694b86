use Rattle.std.proofs.Common.{rules, ◌∷◌, ◌++◌}
use Rattle.script_lines.proofs.Readings.{on_none, write_rest}
use Rattle.script_lines.proofs.script.parse_write.Goals as goal

pub returns-in_err-path : goal.returns-in_err-path
returns-in_err-path c = on_none _ _ _ c.from_residual.ensures
    (λ path file value is. c.in_err-path.ensures path (file ++ 32 ∷ value) is.path_text is.parts)

pub returns-in_err-file : goal.returns-in_err-file
returns-in_err-file c = on_none _ _ _ c.from_residual-in_err-file.ensures
    (λ path file value is. c.in_err-file.ensures file value is.file_text (write_rest _ _ _ c.in_ok-path.ensures.1 path file value is))

pub returns : goal.returns
returns c = search rules
