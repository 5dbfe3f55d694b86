use Rattle.load_run.proofs.serving.serve_input.Given as goal

abbrev pub ghosts-serve_on_boot : goal.ghosts-serve_on_boot
ghosts-serve_on_boot g a = record { table = a.boot.table }
