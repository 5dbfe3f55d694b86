use Rattle.script_lines.proofs.Readings.{alloc_order, on_none}
use Rattle.script_lines.proofs.script.parse_alloc.Goals as goal

pub returns-in_err-path : goal.returns-in_err-path
returns-in_err-path c = on_none _ _ _ c.from_residual.ensures (λ path order is. c.in_err-path.ensures path is.digits is.path_text is.parts)

pub returns-in_err-number : goal.returns-in_err-number
returns-in_err-number c = on_none _ _ _ c.from_residual-in_err-number.ensures
    (λ path order is. let writes = alloc_order _ _ _ c.in_ok-path.ensures.1 path order is in
    c.in_err-number.ensures (writes.digits, rw writes.value writes.fits))
