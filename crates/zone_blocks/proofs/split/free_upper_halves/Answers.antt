use Rattle.std.proofs.Common.{◌≡◌, ℕ, ◌+◌, ◌-◌, ◌∙◌, refl, subst, arith, List, Bool}
use Rattle.zone_blocks.specs.Zone.{block_at, free_set_of, TakesFrames}
use Rattle.zone_blocks.proofs.Halves.{half_is, upper_first, half_ready, halve_at}
use Rattle.zone_blocks.proofs.split.free_upper_halves.Goals as goal

pub insert-requires-clause-block : goal.insert-requires-clause-block
insert-requires-clause-block c =
    let e : ℕ = c.loop-exponent.exponent - 1 in
    let o = rw c.unwrap-half.ensures at c.of.ensures in
    let k : c.loop-exponent.exponent ≡ e + 1 = omega arith in
    (half_ready c.loop-exponent.areas c.args.block.now.at c.loop-exponent.exponent e _ _ (block_at c.args.block.now.at e) k
    (half_is c.args.block.now.at e c.frames.result c.unwrap-half.result c.frames.ensures.frames o.0 _ refl)
    (upper_first c.loop-exponent.areas.frames c.args.block.now.at e) c.loop-exponent.invariant.halving).0

pub insert-requires-clause-apart : goal.insert-requires-clause-apart
insert-requires-clause-apart c =
    let e : ℕ = c.loop-exponent.exponent - 1 in
    let o = rw c.unwrap-half.ensures at c.of.ensures in
    let k : c.loop-exponent.exponent ≡ e + 1 = omega arith in
    (half_ready c.loop-exponent.areas c.args.block.now.at c.loop-exponent.exponent e _ _ (block_at c.args.block.now.at e) k
    (half_is c.args.block.now.at e c.frames.result c.unwrap-half.result c.frames.ensures.frames o.0 _ refl)
    (upper_first c.loop-exponent.areas.frames c.args.block.now.at e) c.loop-exponent.invariant.halving).1

pub loop-exponent-preserved : goal.loop-exponent-preserved
loop-exponent-preserved c =
    let e : ℕ = c.loop-exponent.exponent - 1 in
    let o = rw c.unwrap-half.ensures at c.of.ensures in
    let k : c.loop-exponent.exponent ≡ e + 1 = omega arith in
    let r = halve_at c.loop-exponent.areas c.insert.new.self c.args.block.now.at c.loop-exponent.exponent e _ _ (block_at c.args.block.now.at e) k
    (half_is c.args.block.now.at e c.frames.result c.unwrap-half.result c.frames.ensures.frames o.0 _ refl)
    (upper_first c.loop-exponent.areas.frames c.args.block.now.at e) c.loop-exponent.invariant.halving c.insert.ensures.blocks c.insert.ensures.frames in
    record {
      halving = r.0;
      frames = c.insert.ensures.frames ∙ c.loop-exponent.invariant.frames;
      enough = omega (arith, c.exponent.ensures.exponent);
      taken = λ free t. r.1 free (c.loop-exponent.invariant.taken free t);
    }

pub returns-clause-in_use : goal.returns-clause-in_use
returns-clause-in_use c =
    let same : c.loop-exponent.exponent ≡ c.args.order = omega (arith, c.loop-exponent.invariant.enough, c.exponent.ensures.exponent) in
    let T : ℕ → Type 0 = λ k. (free : List Bool) → TakesFrames free c.args.block.now (free_set_of c.args.areas.now)
    → TakesFrames free (block_at c.args.block.now.at k) (free_set_of c.loop-exponent.areas) in
    subst T same c.loop-exponent.invariant.taken
