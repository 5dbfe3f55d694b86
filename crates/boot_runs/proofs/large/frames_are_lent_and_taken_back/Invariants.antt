use Rattle.boot_runs.proofs.large.frames_are_lent_and_taken_back.Given as goal

abbrev pub ghosts-lends_and_takes_back : goal.ghosts-lends_and_takes_back
ghosts-lends_and_takes_back g a = record { table = a.boot.table }
