use Rattle.mem_machine.proofs.OneGroup.{newer_is}
use Rattle.mem_machine.proofs.machine.Machine.newer.Goals as goal

pub returns : goal.returns
returns g c = newer_is _ _ c.self.view_is c.args.group _ (record { linked = c.lists_of.ensures.linked; owner = c.lists_of.ensures.owner; entries = c.lists_of.ensures.entries })
    c.args.head _ c.number.ensures c.args.list c.requires.home c.newer.result c.newer.ensures
