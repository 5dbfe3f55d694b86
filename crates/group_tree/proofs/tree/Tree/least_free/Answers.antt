use Rattle.std.proofs.Common.{◌≤◌, ◌+◌, length, arith, sym, ◌∙◌, below_more}
use Rattle.group_tree.proofs.GroupLemmas.{length-full}
use Rattle.group_tree.proofs.tree.Tree.least_free.Goals as goal

pub loop-number-smaller : goal.loop-number-smaller
loop-number-smaller c =
    let all = below_more _ _ c.loop-number.invariant.1 (sym c.is_taken.ensures ∙ c.loop-number-test.true) in
    let few : c.loop-number.number + 1 ≤ length c.args.self.now = length-full c.args.self.now (c.loop-number.number + 1) all in
    omega arith

pub loop-number-preserved : goal.loop-number-preserved
loop-number-preserved c =
    let all = below_more _ _ c.loop-number.invariant.1 (sym c.is_taken.ensures ∙ c.loop-number-test.true) in
    (length-full c.args.self.now (c.loop-number.number + 1) all, all)
