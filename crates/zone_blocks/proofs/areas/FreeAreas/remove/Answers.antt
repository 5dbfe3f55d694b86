use Rattle.std.proofs.Common.{◌≡◌, ◌<◌, List, Bool, sym, subst, inl, arith, set}
use Rattle.std.specs.List.{Contains}
use Rattle.zone_blocks.specs.declared.block.Block.{Block}
use Rattle.zone_blocks.specs.{FreeBlocks, RemovesBlock, blocks_of, AreOrderLists, ArePairBits}
use Rattle.zone_blocks.proofs.OrderLists.{from_there}
use Rattle.zone_blocks.proofs.Calls.{bit_within, bits_written, in_zone_of, node_within, removed}
use Rattle.zone_blocks.proofs.Pairing.{removes_one}
use Rattle.zone_blocks.proofs.areas.FreeAreas.remove.Goals as goal

there_inside : (v w : FreeBlocks) → v ≡ w → (b : Block) → Contains w.blocks b → Contains v.blocks b
there_inside v w e b h = let P : FreeBlocks → Type 0 = λ u. Contains u.blocks b in subst P (sym e) h

pub toggle_pair-requires-clause-block : goal.toggle_pair-requires-clause-block
toggle_pair-requires-clause-block c = (from_there _ _ c.args.block (there_inside _ _ c.self.view_is c.args.block c.requires)).0

pub set-requires : goal.set-requires
set-requires c =
    let there = there_inside _ _ c.self.view_is c.args.block c.requires in
    bit_within c.self.inside.frames c.self.inside.bits.items c.args.block c.exponent-exponent.result c.index_mut.result.now c.self.invariant.0.sizes
    (from_there _ _ c.args.block there).0 c.exponent-exponent.ensures.exponent c.index_mut.ensures.value

pub prev-before-requires : goal.prev-before-requires
prev-before-requires c =
    let there = there_inside _ _ c.self.view_is c.args.block c.requires in
    let o = c.exponent-exponent.ensures.at_most in
    let e = c.exponent-exponent.ensures.exponent in
    let w = node_within c.self.inside.frames _ c.args.block.order c.args.block.at (in_zone_of _ _ _ c.self.invariant.0) (omega arith) (inl there) in
    omega (arith, w, c.self.invariant.0.rings.count)

pub next-after-requires : goal.next-after-requires
next-after-requires c =
    let there = there_inside _ _ c.self.view_is c.args.block c.requires in
    let o = c.exponent-exponent.ensures.at_most in
    let e = c.exponent-exponent.ensures.exponent in
    let w = node_within c.self.inside.frames _ c.args.block.order c.args.block.at (in_zone_of _ _ _ c.self.invariant.0) (omega arith) (inl there) in
    omega (arith, w, c.self.invariant.0.rings.count)

pub join-requires-clause-before : goal.join-requires-clause-before
join-requires-clause-before c =
    let there = there_inside _ _ c.self.view_is c.args.block c.requires in
    let o = c.exponent-exponent.ensures.at_most in
    let e = c.exponent-exponent.ensures.exponent in
    let l : c.args.block.order < 11 = omega arith in
    let f = c.self.invariant.0.rings.prev c.args.block.order c.args.block.at l (inl there) in
    let w = node_within c.self.inside.frames _ c.args.block.order _ (in_zone_of _ _ _ c.self.invariant.0) l f.last.node in
    omega (arith, w, c.self.invariant.0.rings.count, c.prev-before.ensures)

pub join-requires-clause-after : goal.join-requires-clause-after
join-requires-clause-after c =
    let there = there_inside _ _ c.self.view_is c.args.block c.requires in
    let o = c.exponent-exponent.ensures.at_most in
    let e = c.exponent-exponent.ensures.exponent in
    let l : c.args.block.order < 11 = omega arith in
    let f = c.self.invariant.0.rings.next c.args.block.order c.args.block.at l (inl there) in
    let w = node_within c.self.inside.frames _ c.args.block.order _ (in_zone_of _ _ _ c.self.invariant.0) l f.node in
    omega (arith, w, c.self.invariant.0.rings.count, c.next-after.ensures)

pub invariant_of-self : goal.invariant_of-self
invariant_of-self c =
    let there = there_inside _ _ c.self.view_is c.args.block c.requires in
    let n = c.self.inside.frames in
    let bits = c.self.inside.bits.items in
    let is = (from_there n bits c.args.block there).0 in
    let same = bits_written n bits c.args.block c.exponent-exponent.result c.index_mut.result.now c.set.new.self _ c.self.invariant.0.sizes is
    c.exponent-exponent.ensures.exponent c.index_mut.ensures.value c.set.ensures in
    let r = removed n bits c.self.inside.links c.join.new.self c.args.block c.prev-before.result c.next-after.result c.self.invariant.0 there
    c.prev-before.ensures c.next-after.ensures c.join.ensures in
    let P : List (List Bool) → Type 0 = λ new. AreOrderLists n new c.join.new.self × ArePairBits n (blocks_of n new) c.toggle_pair.new.pairs.items in
    subst P (sym same) (r.0, c.toggle_pair.ensures.bits _ _ c.self.invariant.1 (removes_one _ _ c.args.block there r.1))

pub returns-clause-blocks : goal.returns-clause-blocks
returns-clause-blocks c =
    let there = there_inside _ _ c.self.view_is c.args.block c.requires in
    let n = c.self.inside.frames in
    let bits = c.self.inside.bits.items in
    let is = (from_there n bits c.args.block there).0 in
    let same = bits_written n bits c.args.block c.exponent-exponent.result c.index_mut.result.now c.set.new.self _ c.self.invariant.0.sizes is
    c.exponent-exponent.ensures.exponent c.index_mut.ensures.value c.set.ensures in
    let r = removed n bits c.self.inside.links c.join.new.self c.args.block c.prev-before.result c.next-after.result c.self.invariant.0 there
    c.prev-before.ensures c.next-after.ensures c.join.ensures in
    let Q : List (List Bool) → Type 0 = λ new. RemovesBlock (blocks_of n bits) c.args.block (blocks_of n new) in
    let after = blocks_of n (set bits c.exponent-exponent.result c.set.new.self) in
    let P : FreeBlocks → Type 0 = λ v. RemovesBlock v.blocks c.args.block after in
    subst P c.self.view_is (subst Q (sym same) r.1)
