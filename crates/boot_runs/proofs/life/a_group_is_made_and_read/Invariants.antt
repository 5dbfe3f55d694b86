use Rattle.boot_runs.proofs.life.a_group_is_made_and_read.Given as goal

abbrev pub ghosts-serves_each_cpu : goal.ghosts-serves_each_cpu
ghosts-serves_each_cpu g a = record { table = a.boot.table }
