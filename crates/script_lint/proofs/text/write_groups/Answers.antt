use Rattle.script_lint.proofs.text.write_groups.Goals as goal

pub returns : goal.returns
returns c = rw c.saturating_sub-last.ensures at c.write.ensures.bytes
