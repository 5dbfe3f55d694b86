use Rattle.std.proofs.Common.{◌≡◌, ◌∙◌, ◌*◌, ◌/◌, ◌^◌, ◌-◌, ◌%◌, ℕ, length, replicate, true, inl, inr, refl, ap, ap₂, sym, subst, arith}
use Rattle.std.proofs.lemmas.List.{length-replicate}
use Rattle.zone_blocks.specs.Block.{IsBlock}
use Rattle.zone_blocks.proofs.Lists.{numbered_is_block}
use Rattle.zone_blocks.proofs.Maximals.{apart_yet, filled_push, filled_order}
use Rattle.zone_blocks.proofs.AllFree.{IsFirstLeft, first_within, filled_up_to, maximal_from}
use Rattle.zone_blocks.proofs.areas.FreeAreas.insert_all_free.Goals as goal
use Rattle.zone_blocks.proofs.areas.FreeAreas.insert_all_free.Goals.{then-exponent-lt-GREATEST, else-exponent-lt-GREATEST}

pub loop-index-init : goal.loop-index-init
loop-index-init c =
    let k = c.args.order in
    let n = c.args.self.now.frames in
    let o = c.exponent.ensures.exponent in
    let count : c.frames.result / c.frames-size.result ≡ n / 2 ^ k = ap₂ (λ f size. f / size) c.frames.ensures c.frames-size.ensures.frames in
    let even : ℕ → ℕ = λ m. m - m % 2 in
    let left : IsFirstLeft n k c.if-exponent-lt-GREATEST.first = elim c.if-exponent-lt-GREATEST.branch [
      | then-exponent-lt-GREATEST w ↦ let t = w.if-exponent-lt-GREATEST.true in inl (omega (arith, o, t), w.first-is ∙ ap even count)
      | else-exponent-lt-GREATEST w ↦ let f = w.if-exponent-lt-GREATEST.false in inr (omega (arith, o, f), w.first-is)
    ] in
    record {
      frames = refl;
      left = left;
      filled = filled_up_to n k c.if-exponent-lt-GREATEST.first _ left c.requires.lower;
    }

pub insert-requires : goal.insert-requires
insert-requires c =
    let k = c.args.order in
    let n = c.args.self.now.frames in
    let count : c.frames.result / c.frames-size.result ≡ n / 2 ^ k = ap₂ (λ f size. f / size) c.frames.ensures c.frames-size.ensures.frames in
    let within = c.loop-index-test.true in
    let small = c.frames-size.ensures.order in
    let here = ap (λ m. c.loop-index.index * m) c.frames-size.ensures.frames in
    let maximal = maximal_from n k c.if-exponent-lt-GREATEST.first c.loop-index.index _ small c.loop-index.invariant.left c.loop-index.auto.index
    (omega (arith, within, count)) here in
    let P : ℕ → ℕ → Type 0 = λ frames at. IsBlock frames record { at = at; order = k } in
    record {
      block = subst (λ frames. P frames (c.loop-index.index * c.frames-size.result)) (sym c.loop-index.invariant.frames)
          (subst (P n) (sym here) (numbered_is_block n k c.loop-index.index (omega arith) (omega (arith, within, count))));
      apart = apart_yet (replicate n true) k c.loop-index.index _ c.loop-index.self.blocks here maximal c.loop-index.invariant.filled;
    }

pub loop-index-preserved : goal.loop-index-preserved
loop-index-preserved c =
    let k = c.args.order in
    let n = c.args.self.now.frames in
    let count : c.frames.result / c.frames-size.result ≡ n / 2 ^ k = ap₂ (λ f size. f / size) c.frames.ensures c.frames-size.ensures.frames in
    let within = c.loop-index-test.true in
    let small = c.frames-size.ensures.order in
    let here = ap (λ m. c.loop-index.index * m) c.frames-size.ensures.frames in
    let maximal = maximal_from n k c.if-exponent-lt-GREATEST.first c.loop-index.index _ small c.loop-index.invariant.left c.loop-index.auto.index
    (omega (arith, within, count)) here in
    record {
      frames = c.insert.ensures.frames ∙ c.loop-index.invariant.frames;
      left = c.loop-index.invariant.left;
      filled = filled_push (replicate n true) k c.loop-index.index _ c.loop-index.self.blocks _ here maximal c.loop-index.invariant.filled
          c.insert.ensures.blocks;
    }

pub returns-clause-filled : goal.returns-clause-filled
returns-clause-filled c =
    let k = c.args.order in
    let n = c.args.self.now.frames in
    let count : c.frames.result / c.frames-size.result ≡ n / 2 ^ k = ap₂ (λ f size. f / size) c.frames.ensures c.frames-size.ensures.frames in
    let len : length (replicate n true) ≡ n = length-replicate n true in
    let each : ℕ → ℕ = λ m. m / 2 ^ k in
    let low = first_within n k c.if-exponent-lt-GREATEST.first c.loop-index.invariant.left in
    let up = c.loop-index.auto.index-end (omega (arith, low, count)) in
    let past = c.loop-index-test.false in
    let stop : c.loop-index.index ≡ c.frames.result / c.frames-size.result = omega (arith, up, past) in
    filled_order (replicate n true) k c.loop-index.index c.loop-index.self.blocks (stop ∙ count ∙ sym (ap each len)) c.loop-index.invariant.filled
