use Rattle.thread_runs.proofs.systems.run_script.Given as goal

abbrev pub ghosts-live_by_threads : goal.ghosts-live_by_threads
ghosts-live_by_threads g a = record { table = a.boot.table }
