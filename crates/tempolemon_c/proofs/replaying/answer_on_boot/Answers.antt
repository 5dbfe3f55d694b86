-- Serves the contract of `answer_on_boot`: what the lines of the script name is there, in a boot of its sizes.
use Rattle.load_run.proofs.Answering.{script_of_boot}
use Rattle.tempolemon_c.proofs.replaying.answer_on_boot.Goals as goal

pub replay_on_boot-requires-clause-lines : goal.replay_on_boot-requires-clause-lines
replay_on_boot-requires-clause-lines c =
    script_of_boot c.args.sizes.now _ c.args.script.now c.in-Ok.lines.items _ c.requires.sizes c.deref.ensures.value c.in-Ok.ensures.ok
