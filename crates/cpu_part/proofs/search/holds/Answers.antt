-- Serves the contract of `holds`: this frame isn't the one sought, nor is one before it.
use Rattle.std.proofs.Common.{◌≡◌, ℕ, ◌+◌, ◌<◌, ◌==◌, ◌||◌, ◌∙◌, Bool, true, false, List, length, get_or, take, ap, arith, refl, sym}
use Rattle.std.proofs.lemmas.Bool.{true≢false}
use Rattle.std.proofs.lemmas.List.{take_more}
use Rattle.step_rules.specs.State.{one_if, times}
use Rattle.step_rules.proofs.Lists.{times_last}
use Rattle.cpu_part.proofs.search.holds.Goals as goal

none_yet : (f x i : ℕ) (xs : List ℕ) (before here : Bool) → i < length xs → x ≡ get_or xs i x → here ≡ (x == f)
    → (before ≡ false → times f (take i xs) ≡ 0) → before || here ≡ false → times f (take (i + 1) xs) ≡ 0
none_yet f x i xs true here inside is test none e = absurd (true≢false e)
none_yet f x i xs false true inside is test none e = absurd (true≢false e)
none_yet f x i xs false false inside is test none e =
    let more = ap (times f) (take_more xs i x inside) in
    let last = times_last f (get_or xs i x) (take i xs) in
    let other : one_if (get_or xs i x == f) ≡ 0 = ap (λ y. one_if (y == f)) (sym is) ∙ ap one_if (sym test) in
    omega (arith, more, last, other, none refl)

pub loop-other-preserved : goal.loop-other-preserved
loop-other-preserved c =
    none_yet c.args.frame c.other-item.result c.loop-other.other-index c.args.block.now c.loop-other.is_there c.eq-is_there.result
    c.loop-other-test.true c.other-item.is c.eq-is_there.ensures c.loop-other.invariant
