use Rattle.mem_machine.proofs.Fronts.{room_for}
use Rattle.mem_machine.proofs.machine.Machine.prove_room.Goals as goal

pub returns : goal.returns
returns g c = record {
  room = room_for g.N.BootName.table _ _ c.self.view_is c.self.invariant.consistent c.prove_charges.ensures.legal c.requires.size;
}
