use Rattle.std.proofs.Common.{Option, inl, inr, subst, sym, arith, ◌∙◌}
use Rattle.std.specs.Option.{MatchOption}
use Rattle.std.specs.List.{Contains}
use Rattle.std.proofs.lemmas.Bool.{cases_lt}
use Rattle.zone_blocks.specs.declared.block.Block.{Block}
use Rattle.zone_blocks.specs.Areas.{FreeBlocks, AreBlocksApart, IsFirstOf, HasNoneOf}
use Rattle.zone_blocks.proofs.OrderLists.{from_there, blocks_apart}
use Rattle.zone_blocks.proofs.Calls.{in_zone_of, first_gives, smallest_is, none_more}
use Rattle.zone_blocks.proofs.areas.FreeAreas.first_from.Goals as goal

pub returns-in-Some-clause-apart : goal.returns-in-Some-clause-apart
returns-in-Some-clause-apart c =
    let P : FreeBlocks → Type 0 = λ v. AreBlocksApart v.frames v.blocks in subst P c.self.view_is (blocks_apart _ _ c.self.invariant.0.apart)

pub returns-clause-apart : goal.returns-clause-apart
returns-clause-apart c =
    let P : FreeBlocks → Type 0 = λ v. AreBlocksApart v.frames v.blocks in subst P c.self.view_is (blocks_apart _ _ c.self.invariant.0.apart)

pub returns-in-Some-clause-smallest : goal.returns-in-Some-clause-smallest
returns-in-Some-clause-smallest c =
    let o = rw c.unwrap-order.ensures at c.of.ensures in
    let first = first_gives c.self.inside.frames _ c.self.inside.links c.unwrap-order.result c.first_of.result
    (in_zone_of _ _ _ c.self.invariant.0) c.self.invariant.0.rings (omega (arith, o.0, o.1)) c.first_of.ensures.first in
    let M : Option Block → FreeBlocks → Type 0 = λ r v. MatchOption r (HasNoneOf v.blocks c.unwrap-order.result) (IsFirstOf v.blocks c.unwrap-order.result) in
    let N : FreeBlocks → Type 0 = λ v. M c.first_of.result v in
    let R : Option Block → Type 0 = λ r. M r c.args.self.now in
    smallest_is c.args.self.now.blocks c.args.exponent c.unwrap-order.result c.in-Some.block (omega (arith, o.0))
    (λ b q enough lt. c.loop-each.invariant b q enough (omega (arith, o.0))) (subst R c.in-Some.is (subst N c.self.view_is first))

pub loop-each-preserved : goal.loop-each-preserved
loop-each-preserved c =
    let o = rw c.unwrap-order.ensures at c.of.ensures in
    let first = first_gives c.self.inside.frames _ c.self.inside.links c.unwrap-order.result c.first_of.result
    (in_zone_of _ _ _ c.self.invariant.0) c.self.invariant.0.rings (omega (arith, o.0, o.1)) c.first_of.ensures.first in
    let M : Option Block → FreeBlocks → Type 0 = λ r v. MatchOption r (HasNoneOf v.blocks c.unwrap-order.result) (IsFirstOf v.blocks c.unwrap-order.result) in
    let N : FreeBlocks → Type 0 = λ v. M c.first_of.result v in
    let R : Option Block → Type 0 = λ r. M r c.args.self.now in
    let none = subst R c.in_default.is (subst N c.self.view_is first) in
    none_more c.args.self.now.blocks c.args.exponent c.loop-each.each c.loop-each.invariant (λ b q e. none b q (e ∙ sym o.0))

pub returns-clause-smallest : goal.returns-clause-smallest
returns-clause-smallest c = λ b q.
    let P : FreeBlocks → Type 0 = λ v. Contains v.blocks b in
    let order = (from_there _ _ b (subst P (sym c.self.view_is) q)).0.order in
    elim (cases_lt b.order c.args.exponent) [
      | inl lt ↦ lt
      | inr ge ↦ absurd (c.loop-each.invariant b q ge (omega (arith, order)))
    ]
