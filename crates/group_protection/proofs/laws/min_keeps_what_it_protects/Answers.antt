use Rattle.group_protection.proofs.Breaking.{what_min_keeps}
use Rattle.group_protection.proofs.laws.min_keeps_what_it_protects.Goals as goal

pub returns : goal.returns
returns c = what_min_keeps
