use Rattle.std.proofs.Common.{Contains, sym, ap, ◌∙◌, subst}
use Rattle.std.specs.Prelude.{sum_by}
use Rattle.std.proofs.lemmas.List.{take_all}
use Rattle.group_tree.specs.declared.group.Group.{Group}
use Rattle.group_tree.proofs.GroupLemmas.{has_group-contains}
use Rattle.group_charge.specs.Charges.{Ledger}
use Rattle.machine_texts.specs.Stat.{pages_shared}
use Rattle.machine_texts.proofs.Counting.{counted_more}
use Rattle.machine_texts.proofs.stat.pages_below.Goals as goal

pub pages_shared-pages-requires-clause-other : goal.pages_shared-pages-requires-clause-other
pages_shared-pages-requires-clause-other g c =
    let here : Contains c.groups-row-items.result.now c.row-item.result = (c.loop-row.row-index, c.loop-row-test.true, sym c.row-item.is) in
    has_group-contains c.args.machine.now.ledger.groups c.row-item.result
    (subst (λ rows. Contains rows c.row-item.result)
    (c.groups-row-items.ensures.groups ∙ c.tree.ensures.tree ∙ ap (λ (l : Ledger). l.groups) c.charges.ensures) here)

pub loop-row-preserved : goal.loop-row-preserved
loop-row-preserved g c =
    counted_more (λ (row : Group). pages_shared c.args.machine.now c.args.list c.args.only_dirty c.args.group row.number) c.groups-row-items.result.now
    c.loop-row.row-index c.loop-row.pages c.pages_shared-pages.result c.row-item.result c.loop-row-test.true c.row-item.is c.pages_shared-pages.ensures.pages
    c.pages_shared-pages.ensures.few c.loop-row.invariant

pub returns-clause-pages : goal.returns-clause-pages
returns-clause-pages g c =
    c.loop-row.invariant.0
    ∙ ap (sum_by (λ (row : Group). pages_shared c.args.machine.now c.args.list c.args.only_dirty c.args.group row.number))
    (take_all c.loop-row.row-index c.groups-row-items.result.now c.loop-row-test.false ∙ c.groups-row-items.ensures.groups ∙ c.tree.ensures.tree
    ∙ ap (λ (l : Ledger). l.groups) c.charges.ensures)
