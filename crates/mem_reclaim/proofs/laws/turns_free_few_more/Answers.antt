use Rattle.mem_reclaim.proofs.FewMore.{turns_free_few_more}
use Rattle.mem_reclaim.proofs.laws.turns_free_few_more.Goals as goal

pub returns : goal.returns
returns c = turns_free_few_more
