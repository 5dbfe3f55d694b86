use Rattle.boot_words.proofs.Away.{away_stays}
use Rattle.boot_words.proofs.run_laws.away_stays.Goals as goal

pub returns : goal.returns
returns c = away_stays
