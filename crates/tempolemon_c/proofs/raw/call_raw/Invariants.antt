use Rattle.tempolemon_c.proofs.raw.call_raw.Given as goal

abbrev pub ghosts-call_pointer : goal.ghosts-call_pointer
ghosts-call_pointer a = record { table = a.pointer.frames }
