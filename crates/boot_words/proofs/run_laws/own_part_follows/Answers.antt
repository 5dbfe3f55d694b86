use Rattle.boot_words.proofs.OwnParts.{own_part_follows}
use Rattle.boot_words.proofs.run_laws.own_part_follows.Goals as goal

pub returns : goal.returns
returns c = own_part_follows
