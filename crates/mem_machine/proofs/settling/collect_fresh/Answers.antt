use Rattle.std.proofs.Common.{ℕ, ◌-◌}
use Rattle.mem_machine.specs.Settling.{collect_steps}
use Rattle.mem_machine.proofs.Collecting.{hands_over, turn_notes}
use Rattle.mem_machine.proofs.Entries.{entry_set, has_entry}
use Rattle.mem_machine.proofs.settling.collect_fresh.Goals as goal

pub returns : goal.returns
returns g c = record {
  cpu = hands_over _ _ _ c.in-Some.ensures.answer;
  sums = entry_set (λ (sum : ℕ). sum - 1) _ _ _ _ c.number.ensures.value (has_entry _ _ c.requires.booked) c.index_mut.ensures.value;
  held = c.in-Some.ensures.run.held;
  notes = turn_notes collect_steps g.N.BootName.table _ _ _ _ _ c.number-at.ensures c.number-cpu_number.ensures.number _ _ c.requires.held
      c.in-Some.ensures.run c.watch_collected.ensures;
}
