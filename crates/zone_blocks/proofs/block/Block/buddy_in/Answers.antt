use Rattle.std.proofs.Common.{◌≡◌, refl, sym, subst, arith}
use Rattle.std.proofs.lemmas.Bool.{iff_false}
use Rattle.zone_blocks.specs.declared.block.Block.{Block}
use Rattle.zone_blocks.specs.Block.{IsBlock, buddy}
use Rattle.zone_blocks.proofs.Filling.{same_block}
use Rattle.zone_blocks.proofs.Pairing.{half_is}
use Rattle.zone_blocks.proofs.block.Block.buddy_in.Goals as goal
use Rattle.zone_blocks.proofs.block.Block.buddy_in.Goals.{then-number-eq0, else-number-eq0}

pub returns-then-not-is_block_of-2 : goal.returns-then-not-is_block_of-2
returns-then-not-is_block_of-2 c = λ has.
    let b = c.args.self.now in
    let block = c.is_block_of.ensures.0 c.if-not-is_block_of.false in
    let half = half_is b c.exponent-2.result block.aligned c.exponent-2.ensures.exponent in
    let at : c.if-number-eq0.at ≡ (buddy b).at = elim c.if-number-eq0.branch [
      | then-number-eq0 w ↦ let e = half.0 w.if-number-eq0.true in omega (arith, e, w.at-is, c.frames-size.ensures.frames)
      | else-number-eq0 w ↦ let e = half.1 w.if-number-eq0.false in omega (arith, e, w.at-is, c.frames-size.ensures.frames)
    ] in
    let other : Block = record { at = c.if-number-eq0.at; order = b.order } in
    iff_false c.is_block_of-2.ensures c.if-not-is_block_of-2.true (subst (IsBlock c.args.frames) (sym (same_block other (buddy b) at refl)) has.buddy_too)

pub returns : goal.returns
returns c =
    let b = c.args.self.now in
    let block = c.is_block_of.ensures.0 c.if-not-is_block_of.false in
    let half = half_is b c.exponent-2.result block.aligned c.exponent-2.ensures.exponent in
    let at : c.if-number-eq0.at ≡ (buddy b).at = elim c.if-number-eq0.branch [
      | then-number-eq0 w ↦ let e = half.0 w.if-number-eq0.true in omega (arith, e, w.at-is, c.frames-size.ensures.frames)
      | else-number-eq0 w ↦ let e = half.1 w.if-number-eq0.false in omega (arith, e, w.at-is, c.frames-size.ensures.frames)
    ] in
    let other : Block = record { at = c.if-number-eq0.at; order = b.order } in
    let same = same_block other (buddy b) at refl in
    let o = c.in_ok-_next.ensures in
    let e = c.exponent.ensures.exponent in (
      record {
        order = omega (arith, o.1, e);
        block = block;
        buddy_too =
            subst (IsBlock c.args.frames) same (c.is_block_of-2.ensures.0 c.if-not-is_block_of-2.false);
      },
      same,
    )
