use Rattle.std.proofs.Common.{◌≡◌, ◌∙◌, ap, arith, rules, subst}
use Rattle.std.specs.Prelude.{slice_index}
use Rattle.group_tree.specs.Groups.{AreGroups}
use Rattle.group_charge.specs.Charges.{Ledger}
use Rattle.mem_reclaim.specs.Shares.{may_give}
use Rattle.mem_reclaim.proofs.Giving.{gives_all, gives_more, gives_none}
use Rattle.mem_reclaim.proofs.shares.shares_of.Goals as goal

pub loop-number-init : goal.loop-number-init
loop-number-init g c = gives_none c.args.machine.now c.args.target

pub loop-number-preserved : goal.loop-number-preserved
loop-number-preserved g c =
    let same : c.in-Some.group ≡ c.loop-number.number = search rules in
    gives_more _ _ _ _ _ c.loop-number.invariant (omega (arith, c.loop-number-test.true, c.room-room.ensures.few)) (c.may_give.ensures ∙ ap (may_give c.args.machine.now c.args.target) same)

pub returns-clause-available : goal.returns-clause-available
returns-clause-available g c =
    let facts = subst (λ (l : Ledger). AreGroups l.groups) c.charges.ensures c.prove_charges.ensures.legal.groups in
    ap slice_index c.new.ensures.available ∙ gives_all _ _ _ _ facts (omega (arith, c.loop-number-test.false, c.room-room.ensures.groups)) c.loop-number.invariant
