-- A block of the zone whose frames are all free is free.
use Rattle.std.proofs.Common.{◌≡◌, ◌∙◌, ◌<◌, ℕ, arith, subst, sym}
use Rattle.zone_blocks.specs.Block.{IsBlock}
use Rattle.mem_core.specs.Rows.{state_in}
use Rattle.mem_core.proofs.FreeBlocks.{free_there}
use Rattle.mem_core.proofs.Ranges.{length_free}
use Rattle.log_check.proofs.answers.refuse_block.Goals as goal

pub unreachable-requires : goal.unreachable-requires
unreachable-requires c =
    let s = state_in c.args.rows.now in
    let b = c.args.block.now in
    let size = c.frames.ensures.frames in
    let block : IsBlock c.args.rows.now.frames b = c.is_block_of.ensures.0 c.if-not-is_block_of.false in
    let same : b.order ≡ c.args.order = sym c.exponent.ensures.exponent ∙ c.if-exponent.false ∙ c.exponent-2.ensures.exponent in
    c.requires.denied same (record {
      block = subst (λ (n : ℕ). IsBlock n b) (sym (length_free s.zone s.phases)) block;
      all_free = λ f covers.
          let inside = block.inside in
          let below : f < s.zone.frames = omega (arith, covers.before, inside) in
          free_there s.zone s.phases f below (c.loop-frame.invariant f covers.from (omega (arith, covers.before, size, c.loop-frame-test.false)));
    })
