use Rattle.boot_runs.proofs.second.boots_and_ends.Given as goal

abbrev pub ghosts-starts_and_ends : goal.ghosts-starts_and_ends
ghosts-starts_and_ends g a = record { table = a.boot.table }
