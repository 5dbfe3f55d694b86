use Rattle.std.proofs.Common.{◌≡◌, ℕ, ◌+◌, ◌-◌, ◌^◌, sym, subst, ap, refl, arith, List, Bool}
use Rattle.zone_blocks.specs.Zone.{block_at, free_set_of, TakesFrames}
use Rattle.zone_blocks.proofs.Halves.{double, size_is, half_is, upper_first, lower_first, half_ready}
use Rattle.zone_blocks.proofs.Around.{HalvedAround, halved_more, one_frame}
use Rattle.zone_blocks.proofs.frame.free_other_halves.Goals as goal

pub insert-requires : goal.insert-requires
insert-requires c =
    let at = c.loop-exponent.at in
    let e : ℕ = c.loop-exponent.exponent - 1 in
    let o = rw c.unwrap-half.ensures at c.of.ensures in
    let k : c.loop-exponent.exponent ≡ e + 1 = omega arith in
    let ready = half_ready c.loop-exponent.areas at c.loop-exponent.exponent e _ _ (block_at at e) k
    (half_is at e c.frames.result c.unwrap-half.result c.frames.ensures.frames o.0 _ refl) (upper_first c.loop-exponent.areas.frames at e)
    c.loop-exponent.invariant.halving in
    record { block = ready.0; apart = ready.1 }

pub loop-exponent-preserved-then-frame-middle : goal.loop-exponent-preserved-then-frame-middle
loop-exponent-preserved-then-frame-middle c =
    let at = c.loop-exponent.at in
    let e : ℕ = c.loop-exponent.exponent - 1 in
    let o = rw c.unwrap-half.ensures at c.of.ensures in
    let k : c.loop-exponent.exponent ≡ e + 1 = omega arith in
    let size = size_is e c.frames.result c.unwrap-half.result c.frames.ensures.frames o.0 in
    let has = c.loop-exponent.invariant.has_frame in
    let from = has.from in
    halved_more _ _ _ c.loop-exponent.areas c.insert.new.self at c.loop-exponent.exponent e _ _ (block_at at e) k
    (half_is at e c.frames.result c.unwrap-half.result c.frames.ensures.frames o.0 _ refl) (upper_first c.loop-exponent.areas.frames at e)
    c.loop-exponent.invariant c.insert.ensures.blocks c.insert.ensures.frames record { from = from; before = omega (arith, size, c.if-frame-middle.true) }

pub insert-requires-else-frame-middle : goal.insert-requires-else-frame-middle
insert-requires-else-frame-middle c =
    let at = c.loop-exponent.at in
    let e : ℕ = c.loop-exponent.exponent - 1 in
    let o = rw c.unwrap-half.ensures at c.of.ensures in
    let k : c.loop-exponent.exponent ≡ e + 1 = omega arith in
    let ready = half_ready c.loop-exponent.areas at c.loop-exponent.exponent e _ _ (block_at (at + 2 ^ e) e) k (ap (block_at at) o.0)
    (lower_first c.loop-exponent.areas.frames at e) c.loop-exponent.invariant.halving in
    record { block = ready.0; apart = ready.1 }

pub loop-exponent-preserved : goal.loop-exponent-preserved
loop-exponent-preserved c =
    let at = c.loop-exponent.at in
    let e : ℕ = c.loop-exponent.exponent - 1 in
    let o = rw c.unwrap-half.ensures at c.of.ensures in
    let k : c.loop-exponent.exponent ≡ e + 1 = omega arith in
    let size = size_is e c.frames.result c.unwrap-half.result c.frames.ensures.frames o.0 in
    let has = c.loop-exponent.invariant.has_frame in
    let before = rw k at has.before in
    let P : ℕ → Type 0 = λ n. HalvedAround c.args.areas.now c.args.block.now c.args.frame c.insert-else-frame-middle.new.self (at + n) e in
    subst P (sym size) (halved_more _ _ _ c.loop-exponent.areas c.insert-else-frame-middle.new.self at c.loop-exponent.exponent e _ _
    (block_at (at + 2 ^ e) e) k (ap (block_at at) o.0) (lower_first c.loop-exponent.areas.frames at e) c.loop-exponent.invariant
    c.insert-else-frame-middle.ensures.blocks c.insert-else-frame-middle.ensures.frames
    record { from = omega (arith, size, c.if-frame-middle.false); before = omega (arith, double e, before) })

pub returns-clause-in_use : goal.returns-clause-in_use
returns-clause-in_use c =
    let r = one_frame c.loop-exponent.at c.loop-exponent.exponent c.args.frame (omega arith) c.loop-exponent.invariant.has_frame in
    let T : ℕ → ℕ → Type 0 = λ at k. (free : List Bool) → TakesFrames free c.args.block.now (free_set_of c.args.areas.now)
    → TakesFrames free (block_at at k) (free_set_of c.loop-exponent.areas) in
    let U : ℕ → Type 0 = λ at. T at c.loop-exponent.exponent in
    subst (T c.args.frame) r.1 (subst U r.0 c.loop-exponent.invariant.taken)
