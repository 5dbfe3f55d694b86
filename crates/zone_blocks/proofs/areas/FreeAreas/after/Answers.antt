use Rattle.std.proofs.Common.{◌≡◌, ◌<◌, ℕ, ◌+◌, sym, subst, inl, arith, ◌∙◌}
use Rattle.std.specs.Option.{MatchOption}
use Rattle.std.specs.List.{Contains}
use Rattle.zone_blocks.specs.declared.block.Block.{Block}
use Rattle.zone_blocks.specs.{FreeBlocks, AreBlocksApart, HasNoneFrom, IsSmallestFrom, HasNoneAfter, IsNextAfter}
use Rattle.zone_blocks.proofs.OrderLists.{from_there, blocks_apart}
use Rattle.zone_blocks.proofs.Calls.{in_zone_of, node_within, behind_gives, above_gives, some_gives, none_gives}
use Rattle.zone_blocks.proofs.areas.FreeAreas.after.Goals as goal

there_inside : (v w : FreeBlocks) → v ≡ w → (b : Block) → Contains w.blocks b → Contains v.blocks b
there_inside v w e b h = let P : FreeBlocks → Type 0 = λ u. Contains u.blocks b in subst P (sym e) h

pub next-node-requires : goal.next-node-requires
next-node-requires c =
    let there = there_inside _ _ c.self.view_is c.args.block.now c.requires in
    let o = (from_there _ _ c.args.block.now there).0.order in
    let w = node_within c.self.inside.frames _ c.args.block.now.order c.args.block.now.at (in_zone_of _ _ _ c.self.invariant.0) (omega arith) (inl there) in
    omega (arith, w, c.self.invariant.0.rings.count)

pub returns-then-is_some-clause-next : goal.returns-then-is_some-clause-next
returns-then-is_some-clause-next c =
    let there = there_inside _ _ c.self.view_is c.args.block.now c.requires in
    let r = behind_gives c.self.inside.frames _ c.self.inside.links c.args.block.now c.next-node.result c.block_at-next.result
    (in_zone_of _ _ _ c.self.invariant.0)
    c.self.invariant.0.rings there c.next-node.ensures c.block_at-next.ensures in
    let P : FreeBlocks → Type 0 = λ v. MatchOption c.block_at-next.result (HasNoneAfter v.blocks c.args.block.now) (IsNextAfter v.blocks c.args.block.now) in
    subst P c.self.view_is (some_gives _ _ _ _ (sym c.is_some.ensures ∙ c.if-is_some.true) r)

pub returns-clause-next : goal.returns-clause-next
returns-clause-next c =
    let there = there_inside _ _ c.self.view_is c.args.block.now c.requires in
    let r = behind_gives c.self.inside.frames _ c.self.inside.links c.args.block.now c.next-node.result c.block_at-next.result
    (in_zone_of _ _ _ c.self.invariant.0)
    c.self.invariant.0.rings there c.next-node.ensures c.block_at-next.ensures in
    let none = none_gives _ _ _ (sym c.is_some.ensures ∙ c.if-is_some.false) r in
    let P : FreeBlocks → Type 0 = λ v. (d : Block) → Contains v.blocks d → d.order ≡ c.args.block.now.order → c.args.block.now.at < d.at → ⊥ in
    let blocks = c.args.self.now.blocks in
    let M : ℕ → Type 0 = λ k. MatchOption c.first_from.result (HasNoneFrom blocks (k + 1)) (IsSmallestFrom blocks (k + 1)) in
    above_gives blocks c.args.block.now c.first_from.result (subst P c.self.view_is none) (subst M c.exponent.ensures.exponent c.first_from.ensures.smallest)

pub returns-then-is_some-clause-apart : goal.returns-then-is_some-clause-apart
returns-then-is_some-clause-apart c =
    let P : FreeBlocks → Type 0 = λ v. AreBlocksApart v.frames v.blocks in subst P c.self.view_is (blocks_apart _ _ c.self.invariant.0.apart)
