-- The group without room is on the path, so it exists.
use Rattle.group_tree.proofs.CallerLemmas.{in_subtree-above}
use Rattle.log_check.proofs.answers.decide_grant.Goals as goal

pub no_room-requires-clause-there : goal.no_room-requires-clause-there
no_room-requires-clause-there c = in_subtree-above c.args.rows.now.tree c.in-Some.over c.args.group c.in-Some.ensures.some.on_path
