-- There are as many flags as frames, and they say which are free.
use Rattle.std.proofs.Common.{Bool, List, length, sym, ◌∙◌, ap, subst}
use Rattle.zone_blocks.specs.Areas.{AreMaximalBlocks}
use Rattle.mem_core.specs.Rows.{state_in}
use Rattle.mem_core.proofs.Ranges.{length_free}
use Rattle.mem_core.proofs.free_areas.set_areas.Goals as goal

pub set_from-requires : goal.set_from-requires
set_from-requires c =
    let s = state_in c.args.rows.now in
    ap length (c.as_slice.ensures.value ∙ c.mark_free.ensures.flags) ∙ length_free s.zone s.phases ∙ sym c.requires.frames

pub returns-clause-areas : goal.returns-clause-areas
returns-clause-areas c =
    subst (λ (free : List Bool). AreMaximalBlocks free c.set_from.new.self.blocks) (c.as_slice.ensures.value ∙ c.mark_free.ensures.flags) c.set_from.ensures.areas
