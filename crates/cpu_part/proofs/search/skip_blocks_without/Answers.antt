-- Serves the contract of `skip_blocks_without`: a block that doesn't hold the frame is passed over.
use Rattle.std.proofs.Common.{◌≡◌, ℕ, ◌+◌, ◌-◌, ◌≤◌, List, drop, take, ap, arith, ◌∙◌}
use Rattle.std.proofs.lemmas.List.{drop-drop, take-append-drop}
use Rattle.step_rules.specs.State.{times}
use Rattle.step_rules.proofs.Lists.{times_append}
use Rattle.cpu_part.proofs.search.skip_blocks_without.Goals as goal

-- nor does the frame stand in a part that begins earlier
pub none_from : (x : ℕ) (xs : List ℕ) (end n : ℕ) → n ≤ end → times x (take (end - n) (drop n xs)) ≡ 0
    → times x (drop end xs) ≡ 0 → times x (drop n xs) ≡ 0
none_from x xs end n low block behind =
    let parts = times_append x (take (end - n) (drop n xs)) (drop (end - n) (drop n xs)) in
    let all = ap (times x) (take-append-drop (end - n) (drop n xs)) in
    let whole : n + (end - n) ≡ end = omega arith in
    let same : times x (drop (end - n) (drop n xs)) ≡ times x (drop end xs)
    = ap (times x) (drop-drop (end - n) n xs ∙ ap (λ k. drop k xs) whole) in
    omega arith

pub loop-end-preserved : goal.loop-end-preserved
loop-end-preserved c =
    let inside = c.loop-end.invariant.0 in (
      omega arith,
      none_from c.args.frame c.args.frames.now c.loop-end.end (c.loop-end.end - 16) (omega arith)
          (c.holds.ensures c.if-holds.false) c.loop-end.invariant.1,
    )
