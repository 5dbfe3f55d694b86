use Rattle.std.proofs.Common.{rules}
use Rattle.script_replay.proofs.Gaining.{get_made}
use Rattle.script_replay.proofs.unlocked_commands.pin.Goals as goal

pub returns-in-Ok-clause-run : goal.returns-in-Ok-clause-run
returns-in-Ok-clause-run g c =
    get_made c.args.cpu.now.part.number c.args.cpu.now.past c.get.new.self.past c.args.frame_number c.in-Ok.got (search rules)
