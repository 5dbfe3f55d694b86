use Rattle.tempolemon_c.proofs.replaying.answer_on_boot.Given as goal

abbrev pub ghosts-replay_on_boot : goal.ghosts-replay_on_boot
ghosts-replay_on_boot a = record { table = a.boot.table }
