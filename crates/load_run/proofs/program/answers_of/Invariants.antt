use Rattle.load_run.proofs.program.answers_of.Given as goal

abbrev pub ghosts-answers_on_boot : goal.ghosts-answers_on_boot
ghosts-answers_on_boot g a = record { table = a.boot.table }
