use Rattle.std.proofs.Common.{ℕ, ◌≤◌, length, subst, sym}
use Rattle.script_replay.proofs.Running.{go_least}
use Rattle.script_replay.proofs.threads.run_lines.Goals as goal

pub split_at-requires : goal.split_at-requires
split_at-requires g c = subst (λ (n : ℕ). n ≤ length c.args.lines.now) (sym c.before_go.ensures) (go_least c.args.lines.now)
