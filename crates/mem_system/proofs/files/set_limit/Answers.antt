use Rattle.std.proofs.Common.{ap, ◌∙◌}
use Rattle.group_tree.specs.Groups.{has_group}
use Rattle.mem_machine.specs.{KnownMachine, set_max_steps}
use Rattle.mem_reclaim.proofs.Grown.{held_after}
use Rattle.mem_system.proofs.Found.{has_group-limited}
use Rattle.mem_system.proofs.Keeping.{limited_to, limited_none}
use Rattle.mem_system.proofs.files.set_limit.Goals as goal

pub keep_to_limit-requires-clause-there : goal.keep_to_limit-requires-clause-there
keep_to_limit-requires-clause-there g c =
    ap (λ (k : KnownMachine). has_group k.ledger.groups c.args.group) c.set_max.ensures.machine
    ∙ has_group-limited c.args.machine.now.ledger.groups c.args.group c.args.group c.args.limit ∙ c.requires.there

pub keep_to_limit-requires-clause-held : goal.keep_to_limit-requires-clause-held
keep_to_limit-requires-clause-held g c =
    held_after g.N.BootName.table c.args.machine.now (set_max_steps c.args.group c.args.limit) c.set_max.new.self c.set_max.ensures.steps c.requires.held

pub returns-in-Some-clause-sets : goal.returns-in-Some-clause-sets
returns-in-Some-clause-sets g c =
    limited_to g.N.BootName.table c.args.group c.in-Some.limit c.args.limit c.args.machine.now
    c.set_max.new.self c.keep_to_limit.new.machine
    c.in-Some.is c.set_max.ensures.machine c.set_max.ensures.steps c.keep_to_limit.ensures.lowers

pub returns-in-Some-clause-visit : goal.returns-in-Some-clause-visit
returns-in-Some-clause-visit g c = λ y v. c.keep_to_limit.ensures.visit y (c.set_max.ensures.visit y v)

pub returns-in_default-clause-sets : goal.returns-in_default-clause-sets
returns-in_default-clause-sets g c =
    limited_none g.N.BootName.table c.args.group c.args.limit c.args.machine.now c.set_max.new.self
    c.in_default.is c.set_max.ensures.machine c.set_max.ensures.steps
