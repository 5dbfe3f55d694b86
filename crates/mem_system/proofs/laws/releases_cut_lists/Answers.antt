use Rattle.mem_system.proofs.CommandLaws.{releases_cut_lists}
use Rattle.mem_system.proofs.laws.releases_cut_lists.Goals as goal

pub returns : goal.returns
returns c = releases_cut_lists
