use Rattle.boot_runs.proofs.second.boots_and_tells.Given as goal

abbrev pub ghosts-starts_and_tells : goal.ghosts-starts_and_tells
ghosts-starts_and_tells g a = record { table = a.boot.table }
