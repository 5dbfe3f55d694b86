use Rattle.std.proofs.Common.{◌≡◌, arith, rules}
use Rattle.mem_machine.proofs.NoneLent.{each_is_placed}
use Rattle.mem_system.proofs.audit.take_audit.Goals as goal

pub returns : goal.returns
returns g c = λ none.
    let placed = each_is_placed c.args.machine.now.frame_states (λ f p is. none p f is) in
    let sized = c.prove_consistent.ensures.sizes.frame_states in
    let size : c.frames-frames.result ≡ g.N.BootName.table.frames = search rules in
    let charged = c.count_charged-charged.ensures.charged in
    record {
      frames = size;
      free = omega (arith, placed, sized, size, charged);
      charged = charged;
      last_puts = search rules;
      freezes = search rules;
      drops = search rules;
      returns = search rules;
    }
