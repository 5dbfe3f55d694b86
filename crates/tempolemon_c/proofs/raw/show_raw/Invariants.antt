use Rattle.tempolemon_c.proofs.raw.show_raw.Given as goal

abbrev pub ghosts-show_file : goal.ghosts-show_file
ghosts-show_file a = record { table = a.pointer.frames }
