use Rattle.system_host.proofs.main.Given as goal

abbrev pub ghosts-run_system : goal.ghosts-run_system
ghosts-run_system g a = record { table = a.boot.table }
