use Rattle.std.proofs.Common.{sym, ◌∙◌}
use Rattle.mem_alloc.specs.Room.{KillsForFewPages}
use Rattle.mem_alloc.proofs.Killing.{kills_allowed, kills_nobody}
use Rattle.mem_alloc.proofs.kills.kill_for_charge.Goals as goal

pub returns-then-is_no_kill-clause-kills : goal.returns-then-is_no_kill-clause-kills
returns-then-is_no_kill-clause-kills g c =
    kills_nobody g.N.BootName.table (KillsForFewPages c.args.requester c.args.limited c.args.pages) c.args.machine.now
    (sym c.is_no_kill.ensures ∙ c.if-is_no_kill.true)

pub returns-clause-kills : goal.returns-clause-kills
returns-clause-kills g c =
    kills_allowed g.N.BootName.table (KillsForFewPages c.args.requester c.args.limited c.args.pages) c.args.machine.now
    c.kill_for_few_pages.new.machine (sym c.is_no_kill.ensures ∙ c.if-is_no_kill.false) c.kill_for_few_pages.ensures.kills
