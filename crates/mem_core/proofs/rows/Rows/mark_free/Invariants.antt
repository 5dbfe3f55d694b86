-- What the loop of `mark_free` keeps.
use Rattle.std.proofs.Common.{◌≡◌, map, vec_capacity, vec_len}
use Rattle.std.specs.List.{range_with_len}
use Rattle.step_rules.specs.Phases.{is_free}
use Rattle.mem_core.specs.Rows.{state_in}
use Rattle.mem_core.proofs.rows.Rows.mark_free.Given as goal

abbrev pub invariant-loop-frame : goal.invariant-loop-frame
invariant-loop-frame l = record {
  flags : l.free.items ≡ map (λ f. is_free ((state_in l.self).phases f)) (range_with_len 0 l.frame);
  size : vec_len l.free ≡ l.frame;
  room : vec_capacity l.free ≡ vec_capacity l.fn.free;
}
