-- The words of a line.
use Rattle.std.proofs.Common.{◌≡◌, ◌≢◌, ℕ, suc, List, [], ◌∷◌, ◌++◌, arith, refl, ap, ◌∙◌}
use Rattle.std.proofs.lemmas.Bool.{ne_eqb}
use Rattle.script_lines.specs.Script.{IsCut}
use Rattle.script_lines.proofs.Cuts.{NoSpace}
use Rattle.script_lint.specs.Causes.{after_space, until_space}

tail_no_space : (b : ℕ) (bs : List ℕ) → NoSpace (b ∷ bs) → NoSpace bs
tail_no_space b bs a k d h = a (suc k) d (omega arith)

not_space : (b : ℕ) (bs : List ℕ) → NoSpace (b ∷ bs) → b ≢ 32
not_space b bs a e = a 0 0 (omega arith) e

after_cut : (w r : List ℕ) → NoSpace w → after_space (w ++ 32 ∷ r) ≡ r
after_cut [] r none = refl
after_cut (b ∷ bs) r none = rw (ne_eqb b 32 (not_space b bs none)) (after_cut bs r (tail_no_space b bs none))

until_cut : (w r : List ℕ) → NoSpace w → until_space (w ++ 32 ∷ r) ≡ w
until_cut [] r none = refl
until_cut (b ∷ bs) r none =
    rw (ne_eqb b 32 (not_space b bs none)) (ap (λ (cs : List ℕ). b ∷ cs) (until_cut bs r (tail_no_space b bs none)))

pub after_word : (text w r : List ℕ) → IsCut text w r → after_space text ≡ r
after_word text w r cut = ap after_space cut.parts ∙ after_cut w r cut.no_space

pub until_word : (text w r : List ℕ) → IsCut text w r → until_space text ≡ w
until_word text w r cut = ap until_space cut.parts ∙ until_cut w r cut.no_space

pub after_none : (text : List ℕ) → NoSpace text → after_space text ≡ []
after_none [] none = refl
after_none (b ∷ bs) none = rw (ne_eqb b 32 (not_space b bs none)) (after_none bs (tail_no_space b bs none))

pub until_none : (text : List ℕ) → NoSpace text → until_space text ≡ text
until_none [] none = refl
until_none (b ∷ bs) none =
    rw (ne_eqb b 32 (not_space b bs none)) (ap (λ (cs : List ℕ). b ∷ cs) (until_none bs (tail_no_space b bs none)))
