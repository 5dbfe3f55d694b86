use Rattle.std.proofs.Common.{rules}
use Rattle.mem_system.proofs.system.System.find.Goals as goal

pub returns : goal.returns
returns g c = let met = c.meet.ensures in record {
  locked = c.meet.new.self;
  sound = search rules;
  part = met.part;
  last = met.last;
  sees = met.meets.cpu_sees;
  same = met.meets.same;
  so = c.find.ensures.found;
}
