use Rattle.bench.proofs.system.print_system.Given as goal

abbrev pub ghosts-live : goal.ghosts-live
ghosts-live g a = record { table = a.boot.table }
