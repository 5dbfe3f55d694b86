use Rattle.script_lint.proofs.refused.write_line.Goals as goal

pub returns : goal.returns
returns c = rw (c.sentence-why.ensures, c.verdict-verdict.ensures) at c.writeln.ensures.bytes
