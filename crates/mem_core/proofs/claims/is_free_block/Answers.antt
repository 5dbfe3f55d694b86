-- A free block is one of the zone.
use Rattle.std.proofs.Common.{ℕ, sym, ◌∙◌, subst}
use Rattle.std.proofs.lemmas.Bool.{true≢false}
use Rattle.zone_blocks.specs.Block.{IsBlock}
use Rattle.mem_core.specs.Rows.{state_in}
use Rattle.mem_core.proofs.Ranges.{length_free}
use Rattle.mem_core.proofs.claims.is_free_block.Goals as goal

pub returns-else-is_block_of : goal.returns-else-is_block_of
returns-else-is_block_of c =
    let s = state_in c.args.rows.now in (
      λ t. absurd (true≢false (sym t ∙ c.if-is_block_of.false)),
      λ block. c.is_block_of.ensures.1 (subst (λ (n : ℕ). IsBlock n c.args.block.now) (length_free s.zone s.phases) block.block),
    )
