use Rattle.std.proofs.Common.{None, sym, ◌∙◌}
use Rattle.mem_alloc.specs.Kills.{KillsForRoom}
use Rattle.mem_alloc.proofs.Killing.{kills_allowed, kills_nobody}
use Rattle.mem_alloc.proofs.kills.kill_for_limit.Goals as goal

pub returns-then-is_no_kill-clause-kills : goal.returns-then-is_no_kill-clause-kills
returns-then-is_no_kill-clause-kills g c =
    kills_nobody g.N.BootName.table (KillsForRoom None c.args.limited 0) c.args.machine.now (sym c.is_no_kill.ensures ∙ c.if-is_no_kill.true)

pub returns-clause-kills : goal.returns-clause-kills
returns-clause-kills g c =
    kills_allowed g.N.BootName.table (KillsForRoom None c.args.limited 0) c.args.machine.now
    c.kill_for.new.machine (sym c.is_no_kill.ensures ∙ c.if-is_no_kill.false) c.kill_for.ensures.kills
