-- Some frame is in transit to or from the CPU.
use Rattle.std.proofs.Common.{◌∙◌, arith}
use Rattle.std.proofs.lemmas.Bool.{true≢false}
use Rattle.step_rules.specs.Legal.{rests}
use Rattle.mem_core.specs.Rows.{state_in}
use Rattle.mem_core.proofs.Adding.{all_is}
use Rattle.log_check.proofs.showing.show_passing_at.Goals as goal

pub unreachable-requires : goal.unreachable-requires
unreachable-requires c =
    let s = state_in c.args.rows.now in
    true≢false (all_is s.zone.frames (rests s c.args.cpu) (λ i less. c.loop-frame.invariant i (omega (arith, less, c.loop-frame-test.false))) ∙ c.requires.unmet)
