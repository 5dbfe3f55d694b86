use Rattle.bench.proofs.references.measure_unit.Given as goal

abbrev pub ghosts-live : goal.ghosts-live
ghosts-live g a = record { table = a.boot.table }
