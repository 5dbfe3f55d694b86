use Rattle.std.proofs.Common.{◌≡◌, ◌≤◌, true, false, arith, rules, subst}
use Rattle.group_tree.specs.Groups.{AreGroups, in_subtree, room_of}
use Rattle.group_tree.proofs.CallerLemmas.{in_subtree-below}
use Rattle.group_charge.specs.Charges.{Ledger}
use Rattle.mem_reclaim.proofs.Passing.{all_tried, pass_none, pass_more, pass_enough, pass_done, pass_skips, share_inside, shares_first, turn_inside}
use Rattle.mem_reclaim.proofs.Grown.{held_after}
use Rattle.mem_reclaim.proofs.passes.reclaim_pass.Goals as goal

pub loop-number-init : goal.loop-number-init
loop-number-init g c = pass_none g.N.BootName.table _ c.args.pass c.args.target c.args.want c.args.machine.now

pub returns-then-want-freed-clause-passes : goal.returns-then-want-freed-clause-passes
returns-then-want-freed-clause-passes g c = pass_enough _ _ _ _ _ _ _ _ _ c.loop-number.invariant c.if-want-freed.true

pub loop-number-preserved-then-not-is_in_subtree : goal.loop-number-preserved-then-not-is_in_subtree
loop-number-preserved-then-not-is_in_subtree g c =
    let turn : c.in-Some.turn ≡ c.loop-number.number = search rules in
    let away : in_subtree c.loop-number.machine.ledger.groups c.args.target c.in-Some.turn ≡ false = cc in
    pass_skips _ _ _ _ _ _ _ _ _ c.loop-number.invariant c.in-Some.turn turn (omega (arith, c.loop-number-test.true, c.room-number-end.ensures.groups)) away

pub part_of-part-requires : goal.part_of-part-requires
part_of-part-requires g c =
    let facts = subst (λ (l : Ledger). AreGroups l.groups) c.charges.ensures c.prove_charges.ensures.legal.groups in
    let inside : in_subtree c.loop-number.machine.ledger.groups c.args.target c.in-Some.turn ≡ true = cc in
    share_inside c.args.shares (λ s. s.now.room) _ _ c.requires.room (turn_inside _ _ _ _ _ _ _ _ _ c.loop-number.invariant facts c.in-Some.turn inside)

pub take_turn-freed-requires-clause-inside : goal.take_turn-freed-requires-clause-inside
take_turn-freed-requires-clause-inside g c = cc

pub take_turn-freed-requires-clause-there : goal.take_turn-freed-requires-clause-there
take_turn-freed-requires-clause-there g c =
    in_subtree-below c.loop-number.machine.ledger.groups c.args.target c.in-Some.turn (take_turn-freed-requires-clause-inside g c)

pub take_turn-freed-requires-clause-held : goal.take_turn-freed-requires-clause-held
take_turn-freed-requires-clause-held g c =
    let so = c.loop-number.invariant.so_far in
    held_after g.N.BootName.table c.args.machine.now so.steps c.loop-number.machine so.moves.runs c.requires.held

pub loop-number-preserved : goal.loop-number-preserved
loop-number-preserved g c =
    let e = c.take_turn-freed.ensures in
    let turn : c.in-Some.turn ≡ c.loop-number.number = search rules in
    let inside : in_subtree c.loop-number.machine.ledger.groups c.args.target c.in-Some.turn ≡ true = cc in
    pass_more _ _ _ _ _ _ _ _ _ c.loop-number.invariant (shares_first _ _ _ c.requires.shares) c.if-want-freed.false c.in-Some.turn turn (omega (arith, c.loop-number-test.true, c.room-number-end.ensures.groups)) inside
    c.part_of-part.result c.take_turn-freed.result c.take_turn-freed.new.machine c.part_of-part.ensures e.turn e.keeps e.usage e.few e.leaves e.tried

pub returns : goal.returns
returns g c =
    let so = c.loop-number.invariant in
    let past : room_of c.args.machine.now.ledger.groups ≤ c.loop-number.number = omega (arith, c.loop-number-test.false, c.room-number-end.ensures.groups) in
    let facts = subst (λ (l : Ledger). AreGroups l.groups) c.charges.ensures c.prove_charges.ensures.legal.groups in
    record {
      passes = pass_done _ _ _ _ _ _ _ _ _ so past;
      keeps = so.keeps;
      usage = so.usage;
      few = so.few;
      tried = all_tried _ _ _ _ _ _ _ _ _ so facts past;
    }

pub returns-then-want-freed-clause-few : goal.returns-then-want-freed-clause-few
returns-then-want-freed-clause-few g c = search rules

pub returns-then-want-freed-clause-tried : goal.returns-then-want-freed-clause-tried
returns-then-want-freed-clause-tried g c = search rules
