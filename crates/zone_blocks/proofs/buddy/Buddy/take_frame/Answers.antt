use Rattle.std.proofs.Common.{ℕ, Option, None, Some, rules, sym, ◌∙◌, subst}
use Rattle.std.specs.Option.{IsSome, MatchOption}
use Rattle.zone_blocks.specs.declared.block.Block.{Block}
use Rattle.zone_blocks.specs.{IsBlock, IsFree, BuddyZone, block_at, free_set_of, TakesFrames}
use Rattle.zone_blocks.proofs.BuddyFrames.{length-set_of, in_a_block, takes_frames, kept_less}
use Rattle.zone_blocks.proofs.buddy.Buddy.take_frame.Goals as goal

some_there : (o : Option Block) (P : Type 0) (Q : Block → Type 0) → ¬ P → MatchOption o P Q → IsSome o
some_there None P Q not h = absurd (not h)
some_there (Some b) P Q not h = search rules

pub unwrap-block-requires : goal.unwrap-block-requires
unwrap-block-requires c =
    let F : BuddyZone → Type 0 = λ z. IsFree z.free c.args.frame in
    let r = (in_a_block c.self.inside.areas c.args.frame (subst F (sym c.self.view_is) c.requires)).1 in
    some_there c.block_with.result _ _ (λ none. none r.0 r.1 r.2) c.block_with.ensures

pub free_other_halves-requires-clause-kept : goal.free_other_halves-requires-clause-kept
free_other_halves-requires-clause-kept c =
    let found = rw c.unwrap-block.ensures at c.block_with.ensures in
    kept_less c.self.inside.areas c.remove.new.self c.unwrap-block.result c.self.invariant found.0 c.remove.ensures.blocks c.remove.ensures.frames

pub free_other_halves-requires-clause-block : goal.free_other_halves-requires-clause-block
free_other_halves-requires-clause-block c =
    let found = rw c.unwrap-block.ensures at c.block_with.ensures in
    let block = (c.self.invariant.maximal.each c.unwrap-block.result found.0).is_free.block in
    let P : ℕ → Type 0 = λ n. IsBlock n c.unwrap-block.result in
    subst P (length-set_of c.self.inside.areas ∙ sym c.remove.ensures.frames) block

pub free_other_halves-requires-clause-in_use : goal.free_other_halves-requires-clause-in_use
free_other_halves-requires-clause-in_use c =
    let found = rw c.unwrap-block.ensures at c.block_with.ensures in
    (takes_frames c.self.inside.areas c.remove.new.self c.unwrap-block.result c.self.invariant.maximal found.0 c.remove.ensures.blocks
    c.remove.ensures.frames).in_use

pub returns-clause-frames : goal.returns-clause-frames
returns-clause-frames c =
    let found = rw c.unwrap-block.ensures at c.block_with.ensures in
    let taken = takes_frames c.self.inside.areas c.remove.new.self c.unwrap-block.result c.self.invariant.maximal found.0
    c.remove.ensures.blocks c.remove.ensures.frames in
    let Q : BuddyZone → Type 0 = λ z. TakesFrames z.free (block_at c.args.frame 0) (free_set_of c.free_other_halves.new.areas) in
    subst Q c.self.view_is (c.free_other_halves.ensures.in_use (free_set_of c.self.inside.areas) taken)
