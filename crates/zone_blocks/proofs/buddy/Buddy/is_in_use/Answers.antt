use Rattle.std.proofs.Common.{ℕ, sym, ◌∙◌, subst}
use Rattle.std.proofs.lemmas.Bool.{iff_false, not-true, not_from_false, false_from_ne_true, false≢true}
use Rattle.zone_blocks.specs.{IsBlock, BuddyZone, IsInUse}
use Rattle.zone_blocks.proofs.BuddyFrames.{length-set_of, in_use_apart, overlaps_not_in_use}
use Rattle.zone_blocks.proofs.buddy.Buddy.is_in_use.Goals as goal

pub returns-then-is_block_of : goal.returns-then-is_block_of
returns-then-is_block_of c =
    let P : BuddyZone → Type 0 = λ z. IsInUse z.free c.args.block in
    let B : ℕ → Type 0 = λ n. IsBlock n c.args.block in
    let block : IsBlock c.self.inside.areas.frames c.args.block = subst B c.frames.ensures (c.is_block_of.ensures.0 c.if-is_block_of.true) in (
      λ t. subst P c.self.view_is (in_use_apart c.self.inside.areas c.args.block block (iff_false c.overlaps.ensures (not-true _ t))),
      λ h. not_from_false _ (false_from_ne_true _ (λ o. overlaps_not_in_use c.self.inside.areas c.args.block
          (subst P (sym c.self.view_is) h) (c.overlaps.ensures.0 o))),
    )

pub returns-else-is_block_of : goal.returns-else-is_block_of
returns-else-is_block_of c =
    let P : BuddyZone → Type 0 = λ z. IsInUse z.free c.args.block in
    let B : ℕ → Type 0 = λ n. IsBlock n c.args.block in (
      λ t. absurd (false≢true (sym c.if-is_block_of.false ∙ t)),
      λ h. let u = subst P (sym c.self.view_is) h in
          c.is_block_of.ensures.1 (subst B (length-set_of c.self.inside.areas ∙ sym c.frames.ensures) u.block),
    )
