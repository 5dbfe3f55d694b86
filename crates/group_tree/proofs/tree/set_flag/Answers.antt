use Rattle.std.proofs.Common.{◌++◌, sym, ap, ◌∙◌, set, map, drop}
use Rattle.std.proofs.lemmas.List.Edits.{map_over_more}
use Rattle.std.proofs.lemmas.List.{take_all, drop_all, append-nil}
use Rattle.group_tree.specs.Groups.{flagged, with_oom_group}
use Rattle.group_tree.proofs.tree.set_flag.Goals as goal

pub loop-row-preserved : goal.loop-row-preserved
loop-row-preserved c =
    let new = flagged c.args.group c.args.oom_group in
    let put = set c.loop-row.rows c.loop-row.row-index in
    ap put (c.set_flag_of_row.ensures ∙ ap new (sym c.row-item.is))
    ∙ map_over_more new c.args.rows.now c.loop-row.rows c.loop-row.row-index c.row-item.result c.loop-row-test.true c.loop-row.invariant c.row-item.is

pub returns : goal.returns
unfolding with_oom_group
returns c =
    let new = flagged c.args.group c.args.oom_group in
    let old = c.args.rows.now in
    c.loop-row.invariant
    ∙ ap (λ rows. map new rows ++ drop c.loop-row.row-index old) (take_all c.loop-row.row-index old c.loop-row-test.false)
    ∙ ap (λ rows. map new old ++ rows) (drop_all c.loop-row.row-index old c.loop-row-test.false)
    ∙ append-nil (map new old)
