use Rattle.std.proofs.Common.{◌≡◌, ◌∙◌, ◌*◌, ◌/◌, ℕ, length, ap, sym, arith}
use Rattle.std.proofs.lemmas.Bool.{iff_false}
use Rattle.zone_blocks.proofs.Maximals.{apart_yet, filled_push, filled_skip, filled_order}
use Rattle.zone_blocks.proofs.areas.FreeAreas.insert_maximal.Goals as goal
use Rattle.zone_blocks.proofs.areas.FreeAreas.insert_maximal.Goals.{then-is_maximal_block, else-is_maximal_block}

pub insert-requires-clause-apart : goal.insert-requires-clause-apart
insert-requires-clause-apart c =
    let scaled : ℕ → ℕ = λ m. c.loop-index.index * m in
    apart_yet c.args.free.now c.args.order c.loop-index.index _ c.loop-index.self.blocks (ap scaled c.frames-size.ensures.frames)
    (c.is_maximal_block.ensures.0 c.if-is_maximal_block.true) c.loop-index.invariant.filled

pub loop-index-preserved : goal.loop-index-preserved
loop-index-preserved c =
    let scaled : ℕ → ℕ = λ m. c.loop-index.index * m in
    let here = ap scaled c.frames-size.ensures.frames in
    elim c.if-is_maximal_block.branch [
      | then-is_maximal_block w ↦ record {
        frames = rw w.self-is (w.insert.ensures.frames ∙ c.loop-index.invariant.frames);
        filled = rw w.self-is (filled_push c.args.free.now c.args.order c.loop-index.index _ c.loop-index.self.blocks _ here
            (c.is_maximal_block.ensures.0 w.if-is_maximal_block.true) c.loop-index.invariant.filled w.insert.ensures.blocks);
      }
      | else-is_maximal_block w ↦ record {
        frames = rw w.self-is c.loop-index.invariant.frames;
        filled = rw w.self-is (filled_skip c.args.free.now c.args.order c.loop-index.index _ c.loop-index.self.blocks here
            (λ m. iff_false c.is_maximal_block.ensures w.if-is_maximal_block.false m) c.loop-index.invariant.filled);
      }
    ]

pub returns-clause-filled : goal.returns-clause-filled
returns-clause-filled c =
    let parts : ℕ → ℕ = λ m. length c.args.free.now / m in
    let whole : ℕ → ℕ = λ m. m / c.frames-size.result in
    let stop : c.loop-index.index ≡ c.frames.result / c.frames-size.result = omega arith in
    let count : c.frames.result ≡ length c.args.free.now = c.frames.ensures ∙ sym c.requires.frames in
    filled_order c.args.free.now c.args.order c.loop-index.index c.loop-index.self.blocks (stop ∙ ap whole count
    ∙ ap parts c.frames-size.ensures.frames) c.loop-index.invariant.filled
