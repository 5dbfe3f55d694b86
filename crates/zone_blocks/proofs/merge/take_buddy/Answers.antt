use Rattle.std.proofs.Common.{sym, subst, arith}
use Rattle.std.specs.List.{Contains}
use Rattle.zone_blocks.specs.declared.block.Block.{Block}
use Rattle.zone_blocks.proofs.Merging.{no_bit, bit_is_one, buddy_taken}
use Rattle.zone_blocks.proofs.merge.take_buddy.Goals as goal

pub returns-in_err-is_one : goal.returns-in_err-is_one
returns-in_err-is_one c = rw c.from_residual.ensures (no_bit c.args.areas.now c.args.block.now c.requires.kept c.requires.block c.in_err-is_one.ensures)

pub remove-requires : goal.remove-requires
remove-requires c =
    let C : Block → Type 0 = λ z. Contains c.args.areas.now.blocks z in
    subst C (sym c.in_ok-other.ensures.1) (bit_is_one c.args.areas.now c.args.block.now c.requires.alone (c.in_ok-is_one.ensures.1.0 c.if-not-is_one.false))

pub returns : goal.returns
returns c =
    let there = bit_is_one c.args.areas.now c.args.block.now c.requires.alone (c.in_ok-is_one.ensures.1.0 c.if-not-is_one.false) in
    let next = c.in_ok-order.ensures in
    let e = c.exponent.ensures.exponent in
    buddy_taken c.args.areas.now c.remove.new.self c.args.block.now c.in_ok-other.other c.in_ok-order.order c.min-at.result
    c.requires.block c.in_ok-other.ensures.1
    (omega (arith, next.0, e)) (omega (arith, next.0, next.1)) c.min-at.ensures there c.remove.ensures.blocks c.remove.ensures.frames
