-- Each step of a cell keeps its rule.
use Rattle.std.proofs.Common.{◌≡◌, ℕ, List, ◌∷◌, get_or, ap, sym, refl, ◌∙◌, ◌<◌, subst, set, arith, [], Option, Some, None, length-set, get_or-set_same}
use mathlib.Core.Logic.{dite}
use mathlib.Core.Option.{none, some, some-ne-none}
use native.Mathlib.Decide.{ℕ_discrete}
use lib.ListN.{get_elem?}
use Rattle.atomic_table.specs.Table.{Me, keeps, takes, gives, Allows, Arrives}
use Rattle.atomic_table.proofs.Lists.{set_here}
use Rattle.host_memory.specs.Cells.{Gives, IsGuarded, Takes}

module _ {A : Type 0} where
  -- what is first in a list is replaced
  first_set : (l : List A) (was now : A) → get_elem? l 0 ≡ some was → get_elem? (set l 0 now) 0 ≡ some now
  first_set [] was now e = absurd (some-ne-none was (sym e))
  first_set (x ∷ xs) was now e = refl

module _ {T : Type 0} where
  pub gives_back : (id : ℕ) (m : Me (Option T) (Option T × Option T)) (v : Option T × Option T) (value : T) (more : List (ℕ × Option T))
      → m ≡ (v, (0, Some value) ∷ more) → more ≡ [] → Allows IsGuarded 1 id m 0 (λ _. 0) (λ _. Gives m)
  gives_back id m v value more e empty =
      subst (λ (x : Me (Option T) (Option T × Option T)). Allows IsGuarded 1 id x 0 (λ _. 0) (λ _. Gives x))
      (sym (e ∙ ap (λ l. (v, (0, Some value) ∷ l)) empty))
      (λ s g wide me _. (
        (v.0, Some value),
        gives,
        tt,
        record {
          one = length-set s.words 0 0 ∙ g.one;
          home = λ _. (value, set_here s.homes 0 (some (Some value)) (omega arith));
          out = λ held. absurd (held (get_or-set_same s.words 0 0 0 (subst (λ n. 0 < n) (sym g.one) (omega arith))));
        },
        (value, refl, refl),
      ))

  pub takes_out : (n : ℕ) → Arrives (IsGuarded {T = T}) n 0 (λ _. 1) (λ r m. Takes {T = T} r m)
  takes_out n s g wide _ = let long = g.one in let one = get_or-set_same s.words 0 1 0 (omega arith) in
      dite (ℕ_discrete (get_or s.words 0 0) 0)
      (λ free. let t = g.home free in (
        (Some t.0, None),
        takes 0 (Some t.0),
        t.1,
        record { one = length-set s.words 0 1 ∙ long; home = λ e. absurd (omega arith); out = λ _. first_set s.homes _ none t.1 },
        λ _. (t.0, refl),
      ))
      (λ held. (
        (None, None),
        keeps,
        tt,
        record { one = length-set s.words 0 1 ∙ long; home = λ e. absurd (omega arith); out = λ _. g.out held },
        λ e. absurd (held e),
      ))
