-- Texts that are written piece by piece.
use Rattle.std.proofs.Common.{◌≡◌, ◌∙◌, ◌++◌, ◌<◌, ℕ, List, [], Bool, true, false, Result, Ok, Err, IfOk, ap, append_assoc, arith, eqb, nat_lt, refl}
use Rattle.std.specs.Prelude.{if◌then◌else◌, is_ok}
use Rattle.std.proofs.lemmas.Bool.{eqb-false, ltb-false}
use Rattle.zone_blocks.specs.declared.config.Config.{Config}
use Rattle.script_lint.specs.Texts.{default_text, given_text, sizes_text}

-- a piece that is written, or not
pub told : {T E : Type 0} (r : Result T E) (old b u : List ℕ) → u ≡ (if is_ok r then old ++ b else old) → IfOk r (λ x. u ≡ old ++ b)
told (Err e) old b u is = tt
told (Ok x) old b u is = is

-- a piece, and then the last
pub behind : {T E : Type 0} (r : Result T E) (old a z s u : List ℕ) → s ≡ old ++ a → IfOk r (λ x. u ≡ s ++ z) → IfOk r (λ x. u ≡ old ++ (a ++ z))
behind (Err e) old a z s u one last = tt
behind (Ok x) old a z s u one last = last ∙ ap (λ (l : List ℕ). l ++ z) one ∙ append_assoc old a z

-- two pieces, and then the last
pub follow : {T E : Type 0} (r : Result T E) (old a b z s t u : List ℕ) → s ≡ old ++ a → t ≡ s ++ b → IfOk r (λ x. u ≡ t ++ z)
    → IfOk r (λ x. u ≡ old ++ (a ++ (b ++ z)))
follow r old a b z s t u one two last = behind r old a (b ++ z) s u one (behind r s b z t u two last)

-- the line about the sizes
pub sizes_default : (sizes : Config) → sizes.high < sizes.batch → sizes.high ≡ 8 → sizes_text sizes ≡ default_text sizes.high sizes.batch
sizes_default sizes less is = go (nat_lt sizes.high sizes.batch) (eqb sizes.high 8) refl refl
  where
    go : (a b : Bool) → nat_lt sizes.high sizes.batch ≡ a → eqb sizes.high 8 ≡ b
        → (if a then if b then default_text sizes.high sizes.batch else given_text sizes.high sizes.batch else []) ≡ default_text sizes.high sizes.batch
    go true true e f = refl
    go true false e f = absurd (eqb-false sizes.high 8 f is)
    go false b e f = let no = ltb-false sizes.high sizes.batch e in absurd (omega arith)
