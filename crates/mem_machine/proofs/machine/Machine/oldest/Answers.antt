use Rattle.mem_machine.proofs.OneGroup.{oldest_is}
use Rattle.mem_machine.proofs.machine.Machine.oldest.Goals as goal

pub returns : goal.returns
returns g c = oldest_is _ _ c.self.view_is c.args.group _ (record { linked = c.lists_of.ensures.linked; owner = c.lists_of.ensures.owner; entries = c.lists_of.ensures.entries })
    c.args.list c.oldest.result c.oldest.ensures
