use Rattle.std.proofs.Common.{ℕ, ◌+◌, List, Bool, get_or, [], sym, ap, subst, arith, refl, below_more}
use Rattle.std.proofs.lemmas.Bool.{false≢true, iff_false}
use Rattle.zone_blocks.specs.{FreeBlocks, Overlaps, MeetsRange}
use Rattle.zone_blocks.proofs.OrderLists.{overlaps_from, overlaps_none}
use Rattle.zone_blocks.proofs.Calls.{read_bits}
use Rattle.zone_blocks.proofs.areas.FreeAreas.overlaps.Goals as goal

pub returns-then-meets_range : goal.returns-then-meets_range
returns-then-meets_range c =
    let o = rw c.unwrap-order.ensures at c.of.ensures in
    let bits = c.self.inside.bits.items in
    let k = c.loop-exponent.exponent in
    let whole = read_bits c.self.inside.frames bits k k c.index-bits.result.now c.self.invariant.0.sizes (omega arith) refl c.index-bits.ensures in
    let meets = rw o.0 at (c.meets_range.ensures.0 c.if-meets_range.true) in
    let M : List Bool → Type 0 = λ xs. MeetsRange xs k c.args.block.at (c.args.block.at + c.frames.result) in
    let P : FreeBlocks → Type 0 = λ v. Overlaps v.blocks c.args.block in
    let end : ℕ → ℕ = λ n. c.args.block.at + n in (
      λ t. subst P c.self.view_is (overlaps_from c.self.inside.frames bits k c.self.invariant.0.sizes (omega arith) c.args.block
          (c.args.block.at + c.frames.result) (ap end c.frames.ensures.frames) (subst M whole meets)),
      λ h. refl,
    )

pub loop-exponent-preserved : goal.loop-exponent-preserved
loop-exponent-preserved c =
    let o = rw c.unwrap-order.ensures at c.of.ensures in
    let bits = c.self.inside.bits.items in
    let k = c.loop-exponent.exponent in
    let whole = read_bits c.self.inside.frames bits k k c.index-bits.result.now c.self.invariant.0.sizes (omega arith) refl c.index-bits.ensures in
    let M : List Bool → Type 0 = λ xs. MeetsRange xs k c.args.block.at (c.args.block.at + c.frames.result) in
    let none : MeetsRange c.index-bits.result.now k c.args.block.at (c.args.block.at + c.frames.result) → ⊥ =
    rw o.0 at (iff_false c.meets_range.ensures c.if-meets_range.false) in
    let P : ℕ → Type 0 = λ j. MeetsRange (get_or bits j []) j c.args.block.at (c.args.block.at + c.frames.result) → ⊥ in
    below_more P k c.loop-exponent.invariant (λ m. none (subst M (sym whole) m))

pub returns : goal.returns
returns c =
    let P : FreeBlocks → Type 0 = λ v. Overlaps v.blocks c.args.block in
    let end : ℕ → ℕ = λ n. c.args.block.at + n in (
      λ t. absurd (false≢true t),
      λ o. absurd (overlaps_none c.self.inside.frames c.self.inside.bits.items c.args.block (c.args.block.at + c.frames.result)
          (ap end c.frames.ensures.frames) (λ k l. c.loop-exponent.invariant k (omega arith)) (subst P (sym c.self.view_is) o)),
    )
