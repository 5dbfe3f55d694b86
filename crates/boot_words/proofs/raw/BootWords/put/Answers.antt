use Rattle.std.proofs.Common.{sym, subst}
use Rattle.boot_words.specs.{put_said, IsAwayCpu}
use Rattle.boot_words.proofs.Keeping.{keeps_put}
use Rattle.boot_words.proofs.raw.BootWords.put.Goals as goal

pub returns-clause-cpu : goal.returns-clause-cpu
returns-clause-cpu c =
    keeps_put c.args.self.now (record { past = c.cpu.inside.past; number = c.cpu.inside.number; last = c.cpu.inside.last }) c.args.frame (put_said c.put_one.result) c.put_one.new.seat
    (subst (IsAwayCpu c.args.self.now) (sym c.cpu.view_is) c.requires.cpu) c.put_one.ensures
