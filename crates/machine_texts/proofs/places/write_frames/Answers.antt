use Rattle.std.proofs.Common.{rules, arith}
use Rattle.std.proofs.lemmas.Grind.{common_steps}
use Rattle.machine_texts.proofs.places.write_frames.Goals as goal

pub returns-then-first-last : goal.returns-then-first-last
returns-then-first-last c = search rules

pub returns-else-first-last : goal.returns-else-first-last
returns-else-first-last c = grind (arith, common_steps)
