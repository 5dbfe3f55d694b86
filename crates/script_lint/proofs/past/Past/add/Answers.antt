use Rattle.std.proofs.Common.{Bool, ap, ◌||◌}
use Rattle.script_lint.proofs.Pasts.{knows_more}
use Rattle.script_lint.proofs.past.Past.add.Goals as goal

pub returns : goal.returns
returns c texts knows = knows_more _ _ texts c.args.text.now knows c.in_ok-add_made.ensures (ap (λ (goes : Bool). c.args.self.now.had_go || goes) c.is_go.ensures)
