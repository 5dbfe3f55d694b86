use Rattle.std.proofs.Common.{◌≡◌, ◌<◌, List, Bool, sym, subst, arith, set}
use Rattle.zone_blocks.specs.declared.block.Block.{Block}
use Rattle.zone_blocks.specs.{IsBlock, FreeBlocks, Inserts, Overlaps, blocks_of, AreOrderLists, ArePairBits}
use Rattle.zone_blocks.proofs.Nested.{covers_start}
use Rattle.zone_blocks.proofs.Calls.{bits_written, in_zone_of, node_within, last_found, inserted}
use Rattle.zone_blocks.proofs.Pairing.{inserts_one}
use Rattle.zone_blocks.proofs.areas.FreeAreas.insert.Goals as goal

block_inside : (v w : FreeBlocks) → v ≡ w → (b : Block) → IsBlock w.frames b → IsBlock v.frames b
block_inside v w e b h = let P : FreeBlocks → Type 0 = λ u. IsBlock u.frames b in subst P (sym e) h

apart_inside : (v w : FreeBlocks) → v ≡ w → (b : Block) → (Overlaps w.blocks b → ⊥) → Overlaps v.blocks b → ⊥
apart_inside v w e b h q = let P : FreeBlocks → Type 0 = λ u. Overlaps u.blocks b in h (subst P e q)

pub next-after-requires : goal.next-after-requires
next-after-requires c =
    let is = block_inside _ _ c.self.view_is c.args.block c.requires.block in
    let o = is.order in
    let last = last_found c.self.inside.frames c.self.inside.bits.items c.self.inside.links c.args.block c.exponent-exponent.result
    c.node_before-before.result c.index_mut-bits.result.now c.self.invariant.0 is c.exponent-exponent.ensures.exponent
    c.index_mut-bits.ensures.value c.node_before-before.ensures in
    let w = node_within c.self.inside.frames _ c.args.block.order _ (in_zone_of _ _ _ c.self.invariant.0) (omega arith) last.node in
    omega (arith, w, c.self.invariant.0.rings.count)

pub join-requires-clause-before : goal.join-requires-clause-before
join-requires-clause-before c =
    let is = block_inside _ _ c.self.view_is c.args.block c.requires.block in
    let o = is.order in
    let last = last_found c.self.inside.frames c.self.inside.bits.items c.self.inside.links c.args.block c.exponent-exponent.result
    c.node_before-before.result c.index_mut-bits.result.now c.self.invariant.0 is c.exponent-exponent.ensures.exponent
    c.index_mut-bits.ensures.value c.node_before-before.ensures in
    let w = node_within c.self.inside.frames _ c.args.block.order _ (in_zone_of _ _ _ c.self.invariant.0) (omega arith) last.node in
    omega (arith, w, c.self.invariant.0.rings.count)

pub join-requires-2-clause-after : goal.join-requires-2-clause-after
join-requires-2-clause-after c =
    let is = block_inside _ _ c.self.view_is c.args.block c.requires.block in
    let o = is.order in
    let l : c.args.block.order < 11 = omega arith in
    let last = last_found c.self.inside.frames c.self.inside.bits.items c.self.inside.links c.args.block c.exponent-exponent.result
    c.node_before-before.result c.index_mut-bits.result.now c.self.invariant.0 is c.exponent-exponent.ensures.exponent
    c.index_mut-bits.ensures.value c.node_before-before.ensures in
    let f = c.self.invariant.0.rings.next c.args.block.order _ l last.node in
    let w = node_within c.self.inside.frames _ c.args.block.order _ (in_zone_of _ _ _ c.self.invariant.0) l f.node in
    omega (arith, w, c.self.invariant.0.rings.count, c.next-after.ensures, c.join.ensures.count)

pub invariant_of-self : goal.invariant_of-self
invariant_of-self c =
    let is = block_inside _ _ c.self.view_is c.args.block c.requires.block in
    let apart = apart_inside _ _ c.self.view_is c.args.block c.requires.apart in
    let n = c.self.inside.frames in
    let bits = c.self.inside.bits.items in
    let last = last_found n bits c.self.inside.links c.args.block c.exponent-exponent.result c.node_before-before.result c.index_mut-bits.result.now
    c.self.invariant.0 is c.exponent-exponent.ensures.exponent c.index_mut-bits.ensures.value c.node_before-before.ensures in
    let same = bits_written n bits c.args.block c.exponent-exponent.result c.index_mut-bits.result.now c.set.new.self _ c.self.invariant.0.sizes is
    c.exponent-exponent.ensures.exponent c.index_mut-bits.ensures.value c.set.ensures in
    let r = inserted n bits c.self.inside.links c.join.new.self c.join-2.new.self c.args.block c.node_before-before.result
    c.next-after.result c.self.invariant.0 is apart last
    c.next-after.ensures c.join.ensures c.join-2.ensures in
    let P : List (List Bool) → Type 0 = λ new. AreOrderLists n new c.join-2.new.self × ArePairBits n (blocks_of n new) c.toggle_pair.new.pairs.items in
    subst P (sym same) (
      r.0,
      c.toggle_pair.ensures.bits _ _ c.self.invariant.1
          (inserts_one _ _ c.args.block (λ q. apart (c.args.block, q, (c.args.block.at, covers_start c.args.block, covers_start c.args.block))) r.1),
    )

pub returns-clause-blocks : goal.returns-clause-blocks
returns-clause-blocks c =
    let is = block_inside _ _ c.self.view_is c.args.block c.requires.block in
    let apart = apart_inside _ _ c.self.view_is c.args.block c.requires.apart in
    let n = c.self.inside.frames in
    let bits = c.self.inside.bits.items in
    let last = last_found n bits c.self.inside.links c.args.block c.exponent-exponent.result c.node_before-before.result c.index_mut-bits.result.now
    c.self.invariant.0 is c.exponent-exponent.ensures.exponent c.index_mut-bits.ensures.value c.node_before-before.ensures in
    let same = bits_written n bits c.args.block c.exponent-exponent.result c.index_mut-bits.result.now c.set.new.self _ c.self.invariant.0.sizes is
    c.exponent-exponent.ensures.exponent c.index_mut-bits.ensures.value c.set.ensures in
    let r = inserted n bits c.self.inside.links c.join.new.self c.join-2.new.self c.args.block c.node_before-before.result
    c.next-after.result c.self.invariant.0 is apart last
    c.next-after.ensures c.join.ensures c.join-2.ensures in
    let Q : List (List Bool) → Type 0 = λ new. Inserts (blocks_of n bits) c.args.block (blocks_of n new) in
    let after = blocks_of n (set bits c.exponent-exponent.result c.set.new.self) in
    let P : FreeBlocks → Type 0 = λ v. Inserts v.blocks c.args.block after in
    subst P c.self.view_is (subst Q (sym same) r.1)
