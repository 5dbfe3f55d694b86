-- Each number that was passed is a group's, and not all `most_groups` are.
use Rattle.std.proofs.Common.{◌≡◌, ◌≤◌, ◌∙◌, ℕ, Option, None, Some, ap, arith, below_more, length, sym}
use Rattle.std.specs.Option.{SomeIff}
use Rattle.group_tree.specs.Bounds.{most_groups}
use Rattle.group_tree.specs.Groups.{has_group}
use Rattle.group_tree.proofs.GroupLemmas.{length-full}
use Rattle.mem_core.proofs.due.least_free.Goals as goal

-- the group has the number
numbered : (o : Option ℕ) (g n : ℕ) (P : Type 0) → SomeIff o P n → o ≡ Some g → g ≡ n
numbered None g n P some is = cc
numbered (Some x) g n P some is = let e = some in cc

pub returns-then-not-contains : goal.returns-then-not-contains
returns-then-not-contains c =
    let g = c.unwrap-group.result in
    let same : g ≡ c.loop-number.number = numbered _ _ _ _ c.of.ensures c.unwrap-group.ensures in
    record {
      free = sym c.contains.ensures ∙ c.if-not-contains.true;
      least = λ k less. c.loop-number.invariant k (omega (arith, same, less));
    }

pub loop-number-preserved : goal.loop-number-preserved
loop-number-preserved c =
    let same : c.unwrap-group.result ≡ c.loop-number.number = numbered _ _ _ _ c.of.ensures c.unwrap-group.ensures in
    below_more _ _ c.loop-number.invariant (ap (has_group c.args.tree.now) (sym same) ∙ sym c.contains.ensures ∙ c.if-not-contains.false)

pub unreachable-requires : goal.unreachable-requires
unreachable-requires c =
    let all : most_groups ≤ length c.args.tree.now = length-full c.args.tree.now most_groups (λ k less. c.loop-number.invariant k (omega arith)) in
    omega arith
