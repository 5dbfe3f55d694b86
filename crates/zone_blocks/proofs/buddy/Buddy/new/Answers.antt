use Rattle.std.proofs.Common.{◌≡◌, ℕ, true, replicate, sym, ◌∙◌, subst, arith}
use Rattle.std.proofs.lemmas.List.{length-replicate}
use Rattle.zone_blocks.specs.{FreeBlocks, AreMaximalBlocks, free_set_of}
use Rattle.zone_blocks.proofs.BuddyFrames.{set_of_maximal}
use Rattle.zone_blocks.proofs.buddy.Buddy.new.Goals as goal

-- areas whose blocks are the maximal ones of a zone that is all free
all_free : (n m : ℕ) (areas : FreeBlocks) → m ≡ n → areas.frames ≡ n → AreMaximalBlocks (replicate m true) areas.blocks
    → (free_set_of areas ≡ replicate n true) × AreMaximalBlocks (free_set_of areas) areas.blocks
all_free n m areas e same h =
    let P : ℕ → Type 0 = λ k. AreMaximalBlocks (replicate k true) areas.blocks in
    let h' = subst P e h in
    let is : free_set_of areas ≡ replicate n true = set_of_maximal (replicate n true) areas (length-replicate n true ∙ sym same) h' in
    (is, rw is h')

pub invariant_of-result : goal.invariant_of-result
invariant_of-result c =
    let n = c.in_ok-areas.ensures.frames in
    let fits = c.ranges.frames in
    record {
      maximal = (all_free c.args.frames _ c.set_all_free.new.self n (c.set_all_free.ensures.frames ∙ n) c.set_all_free.ensures.areas).1;
      small = rw (c.set_all_free.ensures.frames ∙ n) (omega arith);
    }

pub returns-clause-free : goal.returns-clause-free
returns-clause-free c =
    let n = c.in_ok-areas.ensures.frames in
    (all_free c.args.frames _ c.set_all_free.new.self n (c.set_all_free.ensures.frames ∙ n) c.set_all_free.ensures.areas).0

pub returns-clause-areas : goal.returns-clause-areas
returns-clause-areas c =
    let n = c.in_ok-areas.ensures.frames in
    (all_free c.args.frames _ c.set_all_free.new.self n (c.set_all_free.ensures.frames ∙ n) c.set_all_free.ensures.areas).1
