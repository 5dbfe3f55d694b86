use Rattle.mem_system.proofs.CommandLaws.{ends_leave_empty_words}
use Rattle.mem_system.proofs.laws.ends_leave_empty_words.Goals as goal

pub returns : goal.returns
returns c = ends_leave_empty_words
