use Rattle.std.proofs.Common.{rules}
use Rattle.machine_texts.specs.Lines.{next_text}
use Rattle.machine_texts.proofs.parts.push_next.Goals as goal

pub returns-then-candidates-le1 : goal.returns-then-candidates-le1
unfolding next_text
returns-then-candidates-le1 c = search rules

pub returns : goal.returns
unfolding next_text
returns c = search rules
