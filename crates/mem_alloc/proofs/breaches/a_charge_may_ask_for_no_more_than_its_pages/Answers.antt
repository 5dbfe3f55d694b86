use Rattle.std.proofs.Common.{arith}
use Rattle.std.proofs.lemmas.Bool.{false≢true}
use Rattle.group_tree.specs.Path.{names_of}
use Rattle.group_tree.specs.Groups.{group_at, in_subtree, path_of}
use Rattle.mem_alloc.proofs.breaches.a_charge_may_ask_for_no_more_than_its_pages.Goals as goal

pub returns-clause-many : goal.returns-clause-many
returns-clause-many c = λ asks. let few = asks.few in omega (arith, few)

pub returns-clause-beside : goal.returns-clause-beside
unfolding in_subtree path_of group_at names_of
returns-clause-beside c = λ asks. false≢true asks.on_path
