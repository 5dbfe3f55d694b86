use Rattle.std.proofs.Common.{rules, sym, ◌∙◌}
use Rattle.script_lines.proofs.Readings.{not_asked, on_none}
use Rattle.script_lines.proofs.script.parse_line.Goals as goal

pub returns-then-is_go : goal.returns-then-is_go
returns-then-is_go c = search rules

pub returns-in_err-cpu : goal.returns-in_err-cpu
returns-in_err-cpu c = on_none _ _ _ c.from_residual.ensures
    (not_asked c.args.sizes.now c.args.number c.args.text.now (sym c.is_go.ensures ∙ c.if-is_go.false) c.in_err-cpu.ensures)

pub returns : goal.returns
returns c = search rules
