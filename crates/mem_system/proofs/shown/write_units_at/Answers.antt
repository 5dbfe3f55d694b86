use Rattle.std.proofs.Common.{sym, subst}
use Rattle.mem_machine.specs.Machines.{KnownMachine}
use Rattle.mem_system.specs.Locked.{IsQuiet}
use Rattle.mem_system.proofs.shown.write_units_at.Goals as goal

pub write_units-requires : goal.write_units-requires
write_units-requires g c = record { rests = c.locked.invariant.quiet.rests }

pub invariant_of-locked : goal.invariant_of-locked
invariant_of-locked g c = record {
  quiet = subst (λ (m : KnownMachine). IsQuiet g.N.BootName.table (record { machine = m; sizes = c.locked.inside.sizes })) (sym c.write_units.ensures.units.same)
      c.locked.invariant.quiet;
  seats = c.locked.invariant.seats;
}

pub invariant_of-locked-2 : goal.invariant_of-locked-2
invariant_of-locked-2 g c = record {
  quiet = subst (λ (m : KnownMachine). IsQuiet g.N.BootName.table (record { machine = m; sizes = c.locked.inside.sizes })) (sym c.write_units.ensures.units.same)
      c.locked.invariant.quiet;
  seats = c.locked.invariant.seats;
}
