use Rattle.std.proofs.Common.{rules}
use Rattle.script_replay.proofs.Gaining.{put_made}
use Rattle.script_replay.proofs.unlocked_commands.unpin.Goals as goal

pub returns-clause-run : goal.returns-clause-run
returns-clause-run g c =
    put_made c.args.cpu.now.part.number c.args.cpu.now.past c.put.new.self.past c.args.frame_number c.put.result (search rules)
