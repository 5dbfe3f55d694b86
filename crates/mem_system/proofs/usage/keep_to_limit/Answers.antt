use Rattle.std.proofs.Common.{List, ap, ◌∙◌, arith}
use Rattle.group_tree.specs.declared.group.Group.{Group}
use Rattle.group_tree.specs.Groups.{has_group}
use Rattle.mem_machine.specs.Machines.{KnownMachine}
use Rattle.mem_reclaim.proofs.Grown.{held_after}
use Rattle.mem_alloc.proofs.Making.{limit_held, limit_visits}
use Rattle.mem_system.proofs.Keeping.{lowered_above, lowered_groups, lowered_none}
use Rattle.mem_system.proofs.usage.keep_to_limit.Goals as goal

pub lower_usage-requires-clause-there : goal.lower_usage-requires-clause-there
lower_usage-requires-clause-there g c = ap (λ (x : KnownMachine). has_group x.ledger.groups c.args.group) c.note_limit.ensures ∙ c.requires.there

pub lower_usage-requires-clause-held : goal.lower_usage-requires-clause-held
lower_usage-requires-clause-held g c =
    limit_held g.N.BootName.table c.args.group 0 c.args.machine.now c.note_limit.new.machine c.note_limit.ensures c.requires.held

pub kill_for_limit-requires-clause-there : goal.kill_for_limit-requires-clause-there
kill_for_limit-requires-clause-there g c =
    ap (λ (x : List Group). has_group x c.args.group) (lowered_groups g.N.BootName.table c.args.group c.args.limit _ _ c.lower_usage.ensures.lowers)
    ∙ ap (λ (x : KnownMachine). has_group x.ledger.groups c.args.group) c.note_limit.ensures ∙ c.requires.there

pub kill_for_limit-requires-clause-held : goal.kill_for_limit-requires-clause-held
kill_for_limit-requires-clause-held g c =
    let t = g.N.BootName.table in
    let lowers = c.lower_usage.ensures.lowers in
    held_after t c.note_limit.new.machine lowers.steps c.lower_usage.new.machine lowers.makes
    (limit_held t c.args.group 0 c.args.machine.now c.note_limit.new.machine c.note_limit.ensures c.requires.held)

pub returns-then-limit-current-clause-lowers : goal.returns-then-limit-current-clause-lowers
returns-then-limit-current-clause-lowers g c =
    let over = c.if-limit-current.true in
    let same = c.current.ensures in
    lowered_above g.N.BootName.table c.args.group c.args.limit c.args.machine.now c.note_limit.new.machine
    c.lower_usage.new.machine c.kill_for_limit.new.machine (omega (arith, over, same)) c.note_limit.ensures c.lower_usage.ensures.lowers
    c.kill_for_limit.ensures.kills

pub returns-else-limit-current-clause-lowers : goal.returns-else-limit-current-clause-lowers
returns-else-limit-current-clause-lowers g c =
    let within = c.if-limit-current.false in
    let same = c.current.ensures in
    lowered_none g.N.BootName.table c.args.group c.args.limit c.args.machine.now (omega (arith, within, same))

pub returns-then-limit-current-clause-visit : goal.returns-then-limit-current-clause-visit
returns-then-limit-current-clause-visit g c = λ y v.
    c.kill_for_limit.ensures.visit y (c.lower_usage.ensures.visit y
    (limit_visits g.N.BootName.table c.args.group 0 c.args.machine.now c.note_limit.new.machine c.note_limit.ensures y v))
