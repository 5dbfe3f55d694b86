use Rattle.std.proofs.Common.{◌∙◌, ap, rules}
use Rattle.mem_system.specs.Locked.{KnownLocked}
use Rattle.mem_system.proofs.system.System.visit.Goals as goal

pub returns : goal.returns
returns g c = record {
  found = c.deref_mut-locked.result.now;
  left = c.serve_text-outcome.new.locked;
  sizes_are = ap (λ (l : KnownLocked). l.sizes) c.deref_mut-locked.ensures.value ∙ c.lock-guard.ensures;
  sound_before = search rules;
  served = c.serve_text-outcome.ensures.served;
  sound_after = search rules;
}
