use Rattle.std.proofs.Common.{refl, rules}
use Rattle.mem_system.proofs.system.System.stock_into.Goals as goal

pub write_own_stock-told-requires : goal.write_own_stock-told-requires
write_own_stock-told-requires g c = record { last = c.serve_settle.ensures.ends.last }

pub returns-clause-text : goal.returns-clause-text
returns-clause-text g c = record {
  found = c.deref_mut-locked.result.now;
  settled = c.serve_settle.new.locked;
  left = c.serve_settle.new.locked;
  sound_before = search rules;
  settles = c.serve_settle.ensures.served;
  sound_settled = search rules;
  sound_after = search rules;
  told = (c.write_own_stock-told.ensures, refl);
}
