use Rattle.boot_words.proofs.Counted.{words_count_references}
use Rattle.boot_words.proofs.laws.words_count_references.Goals as goal

pub returns : goal.returns
returns c = words_count_references
