use Rattle.mem_system.proofs.system.System.put_and_end.Goals as goal

pub returns : goal.returns
returns g c = let ends = c.put_and_end.ensures in record { locked = _; sound = ends.sound; so = ends }
