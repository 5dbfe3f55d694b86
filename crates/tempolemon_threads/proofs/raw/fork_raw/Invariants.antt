use Rattle.tempolemon_threads.proofs.raw.fork_raw.Given as goal

abbrev pub ghosts-fork : goal.ghosts-fork
ghosts-fork a = record { table = a.pointer.frames }
