use Rattle.boot_words.proofs.Resting.{zone_rests}
use Rattle.boot_words.proofs.run_laws.the_zone_rests.Goals as goal

pub returns : goal.returns
returns c = zone_rests
