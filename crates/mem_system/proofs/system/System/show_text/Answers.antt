use Rattle.std.proofs.Common.{rules}
use Rattle.mem_system.proofs.system.System.show_text.Goals as goal

pub returns-clause-text : goal.returns-clause-text
returns-clause-text g c = record {
  found = c.deref_mut-locked.result.now;
  left = c.show_text-shown.new.locked;
  sound_before = search rules;
  settles = c.show_text-shown.ensures.served;
  sound_after = search rules;
  told = c.show_text-shown.ensures.text;
}
