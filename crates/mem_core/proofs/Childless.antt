-- A group that doesn't exist has no group below it. Serves `has_child`.
use Rattle.std.proofs.Common.{◌≡◌, ℕ, ◌==◌, ◌&&◌, Bool, true, false, not, List, [], ◌∷◌, refl}
use Rattle.std.specs.List.{list_any}
use Rattle.group_tree.specs.declared.group.Group.{Group}
use Rattle.group_tree.specs.Groups.{has_child, has_group, in_subtree}
use Rattle.mem_core.proofs.Adding.{above_there}

none_any : (test : Group → Bool) (groups : List Group) → ((g : Group) → test g ≡ false) → list_any test groups ≡ false
none_any test [] none = refl
none_any test (g ∷ groups) none = rw (none g) (none_any test groups none)

and_false : (b : Bool) → (b && false) ≡ false
and_false true = refl
and_false false = refl

pub childless : (groups : List Group) (n : ℕ) → has_group groups n ≡ false → has_child groups n ≡ false
unfolding has_child
childless groups n gone =
    none_any (λ g. not (g.number == n) && in_subtree groups n g.number) groups
    (λ g. rw (above_there groups n g.number gone) (and_false (not (g.number == n))))
