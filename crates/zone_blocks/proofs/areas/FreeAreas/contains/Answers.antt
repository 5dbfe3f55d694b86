use Rattle.std.proofs.Common.{sym, subst}
use Rattle.std.specs.List.{Contains}
use Rattle.std.proofs.lemmas.Bool.{iff_false}
use Rattle.zone_blocks.specs.Areas.{FreeBlocks}
use Rattle.zone_blocks.proofs.OrderLists.{from_there}
use Rattle.zone_blocks.proofs.Calls.{bit_within, bit_tells}
use Rattle.zone_blocks.proofs.areas.FreeAreas.contains.Goals as goal

pub contains-requires : goal.contains-requires
contains-requires c =
    bit_within c.self.inside.frames c.self.inside.bits.items c.args.block c.exponent-exponent.result c.index-bits.result.now c.self.invariant.0.sizes
    (c.is_block_of.ensures.0 c.if-is_block_of.true) c.exponent-exponent.ensures.exponent c.index-bits.ensures

pub returns-then-is_block_of : goal.returns-then-is_block_of
returns-then-is_block_of c =
    let tells = bit_tells c.self.inside.frames c.self.inside.bits.items c.args.block c.exponent-exponent.result c.index-bits.result.now c.self.invariant.0.sizes
    (c.is_block_of.ensures.0 c.if-is_block_of.true) c.exponent-exponent.ensures.exponent c.index-bits.ensures in
    let P : FreeBlocks → Type 0 = λ v. Contains v.blocks c.args.block in
    ((λ t. subst P c.self.view_is (tells.0 (c.contains.ensures.0 t))), (λ h. c.contains.ensures.1 (tells.1 (subst P (sym c.self.view_is) h))))

pub returns-else-is_block_of : goal.returns-else-is_block_of
returns-else-is_block_of c =
    let none = iff_false c.is_block_of.ensures c.if-is_block_of.false in
    let P : FreeBlocks → Type 0 = λ v. Contains v.blocks c.args.block in
    ((λ t. absurd (none (c.is_block_of.ensures.0 t))), (λ h. c.is_block_of.ensures.1 (from_there _ _ c.args.block (subst P (sym c.self.view_is) h)).0))
