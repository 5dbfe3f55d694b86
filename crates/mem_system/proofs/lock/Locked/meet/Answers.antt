use Rattle.mem_system.proofs.Counted.{met_counted}
use Rattle.mem_system.proofs.Visiting.{resting_shut}
use Rattle.mem_system.proofs.lock.Locked.meet.Goals as goal

pub invariant_of-self : goal.invariant_of-self
invariant_of-self g c =
    let t = g.N.BootName.table in
    let quiet = c.self.invariant.quiet in
    let met = c.meet.ensures in
    record {
      quiet = record {
        shut = resting_shut t c.meet.new.self met.rests;
        rests = met.rests;
        counted = met_counted t c.self.inside.machine c.meet.new.self c.cpu.inside.past.past c.meet.new.seat.past quiet.rests quiet.counted met.meets met.rests
            met.machine;
        valid = quiet.valid;
        sized = quiet.sized;
      };
      seats = c.self.invariant.seats;
    }
