use Rattle.std.proofs.Common.{ℕ, sym, ◌∙◌, subst}
use Rattle.zone_blocks.specs.{IsBlock, HasNoneFrom, BuddyZone, block_at, free_set_of, TakesFrames}
use Rattle.zone_blocks.proofs.BuddyFrames.{length-set_of, takes_frames, kept_less}
use Rattle.zone_blocks.proofs.buddy.Buddy.take.Goals as goal

pub returns-in_err-found-clause-taken : goal.returns-in_err-found-clause-taken
returns-in_err-found-clause-taken c =
    let P : BuddyZone → Type 0 = λ z. HasNoneFrom z.blocks c.args.order in
    rw c.from_residual.ensures (subst P c.self.view_is c.in_err-found.ensures)

pub free_upper_halves-requires-clause-kept : goal.free_upper_halves-requires-clause-kept
free_upper_halves-requires-clause-kept c =
    let there = c.in_ok-found.ensures.there in
    kept_less c.self.inside.areas c.remove.new.self c.in_ok-found.found c.self.invariant there c.remove.ensures.blocks c.remove.ensures.frames

pub free_upper_halves-requires-clause-block : goal.free_upper_halves-requires-clause-block
free_upper_halves-requires-clause-block c =
    let there = c.in_ok-found.ensures.there in
    let block = (c.self.invariant.maximal.each c.in_ok-found.found there).is_free.block in
    let P : ℕ → Type 0 = λ n. IsBlock n c.in_ok-found.found in
    subst P (length-set_of c.self.inside.areas ∙ sym c.remove.ensures.frames) block

pub free_upper_halves-requires-clause-in_use : goal.free_upper_halves-requires-clause-in_use
free_upper_halves-requires-clause-in_use c =
    let there = c.in_ok-found.ensures.there in
    (takes_frames c.self.inside.areas c.remove.new.self c.in_ok-found.found c.self.invariant.maximal there c.remove.ensures.blocks
    c.remove.ensures.frames).in_use

pub returns-clause-frames : goal.returns-clause-frames
returns-clause-frames c =
    let there = c.in_ok-found.ensures.there in
    let taken = takes_frames c.self.inside.areas c.remove.new.self c.in_ok-found.found c.self.invariant.maximal there
    c.remove.ensures.blocks c.remove.ensures.frames in
    let Q : BuddyZone → Type 0 = λ z. TakesFrames z.free (block_at c.in_ok-found.found.at c.args.order) (free_set_of c.free_upper_halves.new.areas) in
    subst Q c.self.view_is (c.free_upper_halves.ensures.in_use (free_set_of c.self.inside.areas) taken)
