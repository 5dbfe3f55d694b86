use Rattle.std.proofs.Common.{rules}
use Rattle.mem_system.proofs.system.System.units_into.Goals as goal

pub returns-clause-text : goal.returns-clause-text
returns-clause-text g c = record {
  found = c.deref_mut-locked.result.now;
  settled = c.serve_settle.new.locked;
  left = c.write_units_at-told.new.locked;
  sound_before = search rules;
  settles = c.serve_settle.ensures.served;
  sound_settled = search rules;
  sound_after = search rules;
  told = c.write_units_at-told.ensures.units;
}
