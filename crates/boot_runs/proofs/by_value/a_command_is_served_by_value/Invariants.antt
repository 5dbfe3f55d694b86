use Rattle.boot_runs.proofs.by_value.a_command_is_served_by_value.Given as goal

abbrev pub ghosts-serves_by_value : goal.ghosts-serves_by_value
ghosts-serves_by_value g a = record { table = a.boot.table }
