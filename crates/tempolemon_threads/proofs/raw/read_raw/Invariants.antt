use Rattle.tempolemon_threads.proofs.raw.read_raw.Given as goal

abbrev pub ghosts-serve_read : goal.ghosts-serve_read
ghosts-serve_read a = record { table = a.pointer.frames }
