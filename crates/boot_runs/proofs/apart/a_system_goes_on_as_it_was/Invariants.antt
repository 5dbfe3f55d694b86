use Rattle.boot_runs.proofs.apart.a_system_goes_on_as_it_was.Given as goal

abbrev pub ghosts-stays_unchanged : goal.ghosts-stays_unchanged
ghosts-stays_unchanged g a = record { table = a.boot.table }
