use Rattle.std.proofs.Common.{◌≡◌, ◌<◌, ◌≤◌, ℕ, ◌+◌, ◌-◌, ◌/◌, ◌^◌, false, length, sym, ap, ◌∙◌, arith}
use Rattle.std.proofs.lemmas.Bool.{leb-true, le-leb, ltb-true, false≢true}
use Rattle.std.proofs.lemmas.List.{get_or_past}
use Rattle.zone_blocks.proofs.Calls.{begin_before, range_told, range_in_one}
use Rattle.zone_blocks.proofs.rings.meets_range.Goals as goal

pub returns-then-first-len : goal.returns-then-first-len
returns-then-first-len c =
    let k = c.args.order in
    let stop_of : ℕ → ℕ = λ m. (c.args.end + m - 1) / 2 ^ k in
    let shifted : ℕ → ℕ = λ e. (c.args.end + c.frames-size.result - 1) / 2 ^ e in
    let stop : shifted c.exponent.result ≡ begin_before k c.args.end = ap shifted c.exponent.ensures.exponent ∙ ap stop_of c.frames-size.ensures.frames in
    let part : ℕ → ℕ = λ e. c.args.at / 2 ^ e in
    let one = range_in_one c.args.bits.now k c.args.at c.args.end _ (ap part c.exponent-2.ensures.exponent) (c.if-first-stop.true ∙ stop) in
    ((λ t. one.0 (c.contains.ensures.0 t)), (λ m. c.contains.ensures.1 (one.1 m)))

pub returns-else-first-len : goal.returns-else-first-len
returns-else-first-len c =
    let k = c.args.order in
    let stop_of : ℕ → ℕ = λ m. (c.args.end + m - 1) / 2 ^ k in
    let shifted : ℕ → ℕ = λ e. (c.args.end + c.frames-size.result - 1) / 2 ^ e in
    let stop : shifted c.exponent.result ≡ begin_before k c.args.end = ap shifted c.exponent.ensures.exponent ∙ ap stop_of c.frames-size.ensures.frames in
    let part : ℕ → ℕ = λ e. c.args.at / 2 ^ e in
    let one = range_in_one c.args.bits.now k c.args.at c.args.end _ (ap part c.exponent-2.ensures.exponent) (c.if-first-stop.true ∙ stop) in
    let past = c.if-first-len.false in (
      λ t. let lt = ltb-true _ _ t in absurd (omega (arith, lt, past)),
      λ m. absurd (false≢true (sym (get_or_past c.args.bits.now _ false (omega (arith, past, c.len.ensures))) ∙ one.1 m)),
    )

pub returns : goal.returns
returns c =
    let k = c.args.order in
    let bits = c.args.bits.now in
    let stop_of : ℕ → ℕ = λ m. (c.args.end + m - 1) / 2 ^ k in
    let shifted : ℕ → ℕ = λ e. (c.args.end + c.frames-size.result - 1) / 2 ^ e in
    let stop : shifted c.exponent.result ≡ begin_before k c.args.end = ap shifted c.exponent.ensures.exponent ∙ ap stop_of c.frames-size.ensures.frames in
    let low : c.min.result ≤ begin_before k c.args.end = omega (arith, c.min.ensures, stop) in
    let up : (i : ℕ) → i < begin_before k c.args.end → i < length bits → i < c.min.result = λ i a b. omega (arith, c.min.ensures, stop, c.len-2.ensures) in
    let told = range_told bits k c.args.at c.args.end c.in-Some.last c.min.result low up c.in-Some.ensures in
    let part : ℕ → ℕ = λ e. c.args.at / 2 ^ e in
    let same : part c.exponent-2.result ≡ part k = ap part c.exponent-2.ensures.exponent in (
      λ t. let le = leb-true _ _ t in told.0 (omega (arith, le, same)),
      λ m. let le = told.1 m in le-leb _ _ (omega (arith, le, same)),
    )
