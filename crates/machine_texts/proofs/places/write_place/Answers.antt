use Rattle.std.proofs.Common.{rules}
use Rattle.machine_texts.proofs.places.write_place.Goals as goal

pub returns-in-Charged : goal.returns-in-Charged
returns-in-Charged c = search rules

pub returns-in-Lent : goal.returns-in-Lent
returns-in-Lent c = search rules
