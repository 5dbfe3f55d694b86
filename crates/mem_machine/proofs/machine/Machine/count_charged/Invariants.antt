use Rattle.std.proofs.Common.{◌≡◌}
use Rattle.step_rules.specs.State.{sum_to}
use Rattle.mem_machine.specs.Machines.{frames_charged}
use Rattle.mem_machine.proofs.machine.Machine.count_charged.Given as goal

-- the frames of the groups so far are counted
abbrev pub invariant-loop-number : goal.invariant-loop-number
invariant-loop-number g l = l.charged ≡ sum_to l.number (frames_charged l.fn.self.frame_states)
