use Rattle.std.proofs.Common.{◌≡◌, ◌<◌, get_or, ◌-◌, arith, sym}
use Rattle.group_tree.proofs.PathLemmas.{parent_root, parent_text}
use Rattle.group_tree.proofs.names.parent_path.Goals as goal
use Rattle.group_tree.proofs.names.parent_path.Goals.{then-loop-end-test+else-path-end-ne47, else-loop-end-test}

pub returns-then-end-le1 : goal.returns-then-end-le1
returns-then-end-le1 c =
    let found : 0 < c.loop-end.end → get_or c.args.path.now (c.loop-end.end - 1) 0 ≡ 47 =
    elim c.loop-end-test.branch [
      | then-loop-end-test+else-path-end-ne47 w ↦ λ some. w.if-path-end-ne47.false
      | else-loop-end-test w ↦ λ some.
          absurd (omega arith)
    ] in
    sym (parent_root c.args.path.now c.loop-end.end c.loop-end.invariant.0 c.loop-end.invariant.1 found c.if-end-le1.true)

pub returns-else-end-le1 : goal.returns-else-end-le1
returns-else-end-le1 c =
    let found : 0 < c.loop-end.end → get_or c.args.path.now (c.loop-end.end - 1) 0 ≡ 47 =
    elim c.loop-end-test.branch [
      | then-loop-end-test+else-path-end-ne47 w ↦ λ some. w.if-path-end-ne47.false
      | else-loop-end-test w ↦ λ some.
          absurd (omega arith)
    ] in
    sym (parent_text c.args.path.now c.loop-end.end c.loop-end.invariant.0 c.loop-end.invariant.1 found c.if-end-le1.false)
