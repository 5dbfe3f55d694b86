-- Some page is pending.
use Rattle.std.proofs.Common.{◌∙◌, ◌==◌, arith}
use Rattle.std.proofs.lemmas.Bool.{true≢false}
use Rattle.group_tree.specs.Bounds.{most_groups}
use Rattle.mem_core.specs.Rows.{state_in}
use Rattle.mem_core.proofs.Adding.{all_is}
use Rattle.log_check.proofs.showing.show_pending.Goals as goal

pub unreachable-requires : goal.unreachable-requires
unreachable-requires c =
    let s = state_in c.args.rows.now in
    true≢false (all_is most_groups (λ g. s.pending g == 0) (λ i less. c.loop-index.invariant i (omega (arith, less, c.loop-index-test.false))) ∙ c.requires.unmet)
