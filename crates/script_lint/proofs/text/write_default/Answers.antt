use Rattle.script_lint.proofs.text.write_default.Goals as goal

pub returns : goal.returns
returns c = c.writeln.ensures.bytes
