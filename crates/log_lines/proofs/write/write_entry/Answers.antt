use Rattle.std.proofs.Common.{rules, append_assoc}
use Rattle.log_lines.proofs.Texts.{spaced_append}
use Rattle.log_lines.proofs.write.write_entry.Goals as goal

pub returns : goal.returns
returns c = search (rules, spaced_append, append_assoc)
