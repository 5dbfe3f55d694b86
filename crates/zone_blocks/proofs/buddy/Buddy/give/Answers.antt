use Rattle.std.proofs.Common.{◌≡◌, ℕ, length, sym, ◌∙◌, ap, subst}
use Rattle.zone_blocks.specs.{IsBlock, BuddyZone}
use Rattle.zone_blocks.proofs.BuddyFrames.{length-set_of}
use Rattle.zone_blocks.proofs.buddy.Buddy.give.Goals as goal

pub insert_merged-requires-clause-block : goal.insert_merged-requires-clause-block
insert_merged-requires-clause-block c =
    let frames : BuddyZone → ℕ = λ z. length z.free in
    let same : length c.args.self.now.free ≡ c.self.inside.areas.frames = sym (ap frames c.self.view_is) ∙ length-set_of c.self.inside.areas in
    let P : ℕ → Type 0 = λ n. IsBlock n c.args.block in
    subst P same c.requires.block
