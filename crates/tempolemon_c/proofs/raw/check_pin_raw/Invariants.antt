use Rattle.tempolemon_c.proofs.raw.check_pin_raw.Given as goal

abbrev pub ghosts-check_pin : goal.ghosts-check_pin
ghosts-check_pin a = record { table = a.pointer.frames }
