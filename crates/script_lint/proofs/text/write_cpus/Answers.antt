use Rattle.script_lint.proofs.text.write_cpus.Goals as goal

pub returns : goal.returns
returns c = c.write.ensures.bytes
