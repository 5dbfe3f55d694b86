-- The units that are left of a walk over a list.
use Rattle.std.proofs.Common.{◌≡◌, ◌≢◌, ℕ, zero, suc, ◌-◌, ◌<◌, ◌==◌, true, Option, Some, List, [], ◌∷◌, All, length, get_or, refl, subst, arith, eq-eqb, inl, inr}
use Rattle.std.proofs.lemmas.Bool.{cases_Bool}
use Rattle.lru_lists.specs.declared.record.Link.{Link}
use Rattle.lru_lists.specs.declared.record.Home.{Home}
use Rattle.lru_lists.specs.declared.queue.Queue.{Queue}
use Rattle.lru_lists.specs.Queue.{is_among, link_at, units_of, units_from, IsLinked}
use Rattle.lru_lists.proofs.Linking.{within}

-- each member of a list is among its members
at_among : (xs : List ℕ) (k d : ℕ) → k < length xs → is_among xs (get_or xs k d) ≡ true
at_among [] k d h = absurd (omega arith)
at_among (x ∷ xs) zero d h = let t : (x == x) ≡ true = eq-eqb x x refl in rw t refl
at_among (x ∷ xs) (suc k) d h =
    let r : is_among xs (get_or xs k d) ≡ true = at_among xs k d (omega arith) in
    elim (cases_Bool (x == get_or xs k d)) [ inl a ↦ rw a refl | inr a ↦ rw (a, r) refl ]

-- each unit of a linked list is a frame
pub all_frames : (links : List Link) (home : Home) (queue : Queue) → IsLinked links home queue (units_of links queue)
    → All (λ unit. unit < length links) (units_of links queue)
all_frames links home queue linked k d h =
    within links home queue (units_of links queue) (get_or (units_of links queue) k d) linked (at_among (units_of links queue) k d h)

-- what holds of all units that are left holds of those after the next one
pub rest_holds : (links : List Link) (next : Option ℕ) (left unit : ℕ) → next ≡ Some unit → left ≢ 0
    → All (λ u. u < length links) (units_from links next left) → All (λ u. u < length links) (units_from links (link_at links unit).newer (left - 1))
rest_holds links next zero unit is some all = absurd (some refl)
rest_holds links next (suc n) unit is some all =
    let e : suc n - 1 ≡ n = omega arith in
    let now : All (λ u. u < length links) (units_from links (Some unit) (suc n)) =
    subst (λ (o : Option ℕ). All (λ u. u < length links) (units_from links o (suc n))) is all in
    rw e (λ k d h. now (suc k) d (omega arith))
