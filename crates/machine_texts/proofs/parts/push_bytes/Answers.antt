use Rattle.std.proofs.Common.{rules}
use Rattle.machine_texts.specs.Lines.{bytes_text}
use Rattle.machine_texts.proofs.parts.push_bytes.Goals as goal

pub returns : goal.returns
unfolding bytes_text
returns c = search rules
