use Rattle.std.proofs.Common.{ap, ◌∙◌, length}
use Rattle.mem_machine.proofs.machine.Machine.list_len.Goals as goal

pub returns : goal.returns
returns g c = c.len.ensures c.args.self.now.links c.lists_of.ensures.linked ∙ ap length (c.lists_of.ensures.entries c.args.list)
