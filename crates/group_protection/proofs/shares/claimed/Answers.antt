use Rattle.std.proofs.Common.{◌≡◌, Contains, sym, ap, ◌∙◌, subst, arith, rules}
use Rattle.std.specs.Prelude.{sum_by}
use Rattle.std.proofs.lemmas.List.{take_all}
use Rattle.group_tree.specs.declared.group.Group.{Group}
use Rattle.group_tree.proofs.GroupLemmas.{has_group-contains}
use Rattle.group_protection.specs.Protections.{claim_on}
use Rattle.group_protection.proofs.Claiming.{claimed_more}
use Rattle.group_protection.proofs.shares.claimed.Goals as goal

pub claim_on-requires : goal.claim_on-requires
claim_on-requires c =
    let here : Contains c.groups-row-items.result.now c.row-item.result = (c.loop-row.row-index, c.loop-row-test.true, sym c.row-item.is) in
    has_group-contains c.args.charges.now.groups c.row-item.result
    (subst (λ rows. Contains rows c.row-item.result) (c.groups-row-items.ensures.groups ∙ c.tree.ensures.tree) here)

pub loop-row-preserved : goal.loop-row-preserved
loop-row-preserved c =
    let fits = c.claim_on.type_inv in
    let same : c.from-sum.result ≡ c.claim_on.result = search rules in
    claimed_more (λ (g : Group). claim_on c.args.key c.args.charges.now c.args.parent g.number) c.groups-row-items.result.now c.loop-row.row-index c.loop-row.sum
    c.from-sum.result c.row-item.result c.loop-row-test.true c.row-item.is (same ∙ c.claim_on.ensures) (omega (arith, fits, same)) c.loop-row.invariant

pub returns : goal.returns
returns c =
    c.loop-row.invariant.0
    ∙ ap (sum_by (λ (g : Group). claim_on c.args.key c.args.charges.now c.args.parent g.number))
    (take_all c.loop-row.row-index c.groups-row-items.result.now c.loop-row-test.false ∙ c.groups-row-items.ensures.groups ∙ c.tree.ensures.tree)
