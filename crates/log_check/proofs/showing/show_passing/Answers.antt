-- Some frame is in transit.
use Rattle.std.proofs.Common.{◌∙◌, arith}
use Rattle.std.specs.Prelude.{not}
use Rattle.std.proofs.lemmas.Bool.{true≢false}
use Rattle.step_rules.specs.Phases.{is_passing}
use Rattle.mem_core.specs.Rows.{state_in}
use Rattle.mem_core.proofs.Adding.{all_is}
use Rattle.log_check.proofs.showing.show_passing.Goals as goal

pub unreachable-requires : goal.unreachable-requires
unreachable-requires c =
    let s = state_in c.args.rows.now in
    true≢false (all_is s.zone.frames (λ f. not (is_passing (s.phases f))) (λ i less. c.loop-frame.invariant i (omega (arith, less, c.loop-frame-test.false)))
    ∙ c.requires.unmet)
