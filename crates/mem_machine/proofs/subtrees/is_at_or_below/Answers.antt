use Rattle.std.proofs.Common.{sym, ◌∙◌, arith}
use Rattle.group_tree.proofs.AncestorLemmas.{parent-depth_at, parent_of-there}
use Rattle.mem_machine.proofs.Depths.{not_below, parent_below}
use Rattle.mem_machine.proofs.subtrees.is_at_or_below.Goals as goal

pub returns-then-depth : goal.returns-then-depth
returns-then-depth c =
    let shallow = c.if-depth.true in
    let here = c.depth.ensures in
    let there = c.depth-depth.ensures in
    sym (not_below c.args.tree.now c.args.group c.loop-group.above c.prove_groups.ensures.legal
    (λ same. c.loop-group-test.true (c.number.ensures.value ∙ same ∙ sym c.number-in-loop-group.ensures.value)) (omega (arith, shallow, here, there)))
    ∙ c.loop-group.invariant.same

pub loop-group-smaller : goal.loop-group-smaller
loop-group-smaller c =
    let next = parent-depth_at c.args.tree.now c.loop-group.above c.in-Some.parent c.prove_groups.ensures.legal (sym c.parent.ensures.value ∙ c.in-Some.is) in
    omega (arith, next)

pub loop-group-preserved : goal.loop-group-preserved
loop-group-preserved c =
    let up = sym c.parent.ensures.value ∙ c.in-Some.is in
    record {
      there = parent_of-there c.args.tree.now c.loop-group.above c.in-Some.parent c.prove_groups.ensures.legal up;
      same = parent_below c.args.tree.now c.args.group c.loop-group.above c.in-Some.parent c.prove_groups.ensures.legal
          (λ same. c.loop-group-test.true (c.number.ensures.value ∙ same ∙ sym c.number-in-loop-group.ensures.value)) up
          ∙ c.loop-group.invariant.same;
    }
