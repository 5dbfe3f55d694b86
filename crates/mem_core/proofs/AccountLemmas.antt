-- The accounts of the groups that are there change one after another (for `update_accounts`).
use Rattle.std.proofs.Common.{◌≡◌, ◌≢◌, ℕ, ◌+◌, ◌<◌, ◌||◌, Bool, true, false, cond, eqb, List, length, take, get_or, set, refl, sym, ◌∙◌}
use Rattle.std.proofs.Common.{ap, subst, arith, inl, inr}
use Rattle.std.specs.Prelude.{AllPairs}
use Rattle.std.proofs.lemmas.Bool.{cases_eq, eq-eqb, ne_eqb}
use Rattle.std.proofs.lemmas.List.{get_or-set_same, get_or-set_other, get_or_default, get_or-take, length-take-le}
use Rattle.std.proofs.lemmas.List.Folds.{list_any_more, list_any_none}
use Rattle.group_tree.specs.declared.group.Group.{Group}
use Rattle.group_tree.specs.Groups.{has_group}
use Rattle.group_tree.proofs.GroupLemmas.{has_group-any}
use Rattle.mem_core.specs.Accounts.{Account, new_account}

-- the account of each group that is there is changed, and no other
abbrev pub AreChanged : List Group → (ℕ → Account → Account) → List Account → List Account → Type 0
AreChanged groups f old new = (m : ℕ) → get_or new m new_account ≡ cond (has_group groups m) (f m (get_or old m new_account)) (get_or old m new_account)

has_group-take_more : (groups : List Group) (i m : ℕ) (d : Group) → i < length groups
    → has_group (take (i + 1) groups) m ≡ (has_group (take i groups) m || eqb (get_or groups i d).number m)
has_group-take_more groups i m d h =
    has_group-any (take (i + 1) groups) m ∙ list_any_more (λ g. eqb g.number m) groups i d h
    ∙ ap (λ b. b || eqb (get_or groups i d).number m) (sym (has_group-any (take i groups) m))

-- no group has the number of a later one
not_yet : (groups : List Group) (i : ℕ) (d : Group) → AllPairs (λ x y. x.number ≢ y.number) groups → i < length groups
    → has_group (take i groups) (get_or groups i d).number ≡ false
not_yet groups i d distinct h =
    has_group-any (take i groups) (get_or groups i d).number
    ∙ list_any_none (λ g. eqb g.number (get_or groups i d).number) (take i groups)
    (λ k e lt.
    let len = length-take-le i groups (omega arith) in
    let below : k < i = omega arith in
    ne_eqb (get_or (take i groups) k e).number (get_or groups i d).number
    (λ same. distinct k i d below h (ap (λ (g : Group). g.number) (get_or_default groups k d e (omega arith) ∙ sym (get_or-take i groups k e below)) ∙ same)))

or_false : (a b : Bool) → b ≡ false → (a || b) ≡ a
or_false true b e = refl
or_false false b e = e

or_true : (a b : Bool) → b ≡ true → (a || b) ≡ true
or_true true b e = refl
or_true false b e = e

pub AreChanged-none : (groups : List Group) (f : ℕ → Account → Account) (old : List Account) → AreChanged (take 0 groups) f old old
AreChanged-none groups f old m = ap (λ b. cond b (f m (get_or old m new_account)) (get_or old m new_account)) (sym (has_group-any (take 0 groups) m))

-- one account more is changed
AreChanged-more : (groups : List Group) (f : ℕ → Account → Account) (old new : List Account) (i : ℕ) (d : Group) (a : Account)
    → AllPairs (λ x y. x.number ≢ y.number) groups → i < length groups → (get_or groups i d).number < length new
    → AreChanged (take i groups) f old new
    → AreChanged (take (i + 1) groups) f old (set new (get_or groups i d).number (f (get_or groups i d).number (get_or new (get_or groups i d).number a)))
AreChanged-more groups f old new i d a distinct h inside changed m =
    let n : ℕ = (get_or groups i d).number in
    let v : Account = f n (get_or new n a) in
    let at : ℕ → Account = λ (k : ℕ). get_or old k new_account in
    elim (cases_eq m n) [
      | inl same ↦
          let was : get_or new n a ≡ at n = get_or_default new n a new_account inside ∙ changed n
          ∙ ap (λ b. cond b (f n (at n)) (at n)) (not_yet groups i d distinct h) in
          let now : has_group (take (i + 1) groups) n ≡ true = has_group-take_more groups i n d h
          ∙ or_true (has_group (take i groups) n) (eqb n n) (eq-eqb n n refl) in
          subst (λ (k : ℕ). get_or (set new n v) k new_account ≡ cond (has_group (take (i + 1) groups) k) (f k (at k)) (at k)) (sym same)
          (get_or-set_same new n v new_account inside ∙ ap (f n) was ∙ ap (λ b. cond b (f n (at n)) (at n)) (sym now))
      | inr other ↦
          let now : has_group (take (i + 1) groups) m ≡ has_group (take i groups) m =
          has_group-take_more groups i m d h ∙ or_false (has_group (take i groups) m) (eqb n m) (ne_eqb n m (λ e. other (sym e))) in
          get_or-set_other new n m v new_account other ∙ changed m ∙ ap (λ b. cond b (f m (at m)) (at m)) (sym now)
    ]

pub AreChanged-step : (groups : List Group) (f : ℕ → Account → Account) (old new : List Account) (i n : ℕ) (d : Group) (a v : Account)
    → AllPairs (λ x y. x.number ≢ y.number) groups → i < length groups → n < length new → n ≡ (get_or groups i d).number
    → v ≡ f n (get_or new n a) → AreChanged (take i groups) f old new
    → AreChanged (take (i + 1) groups) f old (set new n v)
AreChanged-step groups f old new i n d a v distinct h inside number value changed =
    let k : ℕ = (get_or groups i d).number in
    let below : k < length new = omega arith in
    let here : v ≡ f k (get_or new k a) = value ∙ ap (λ (x : ℕ). f x (get_or new x a)) number in
    subst (λ (x : Account). AreChanged (take (i + 1) groups) f old (set new n x)) (sym here)
    (subst (λ (x : ℕ). AreChanged (take (i + 1) groups) f old (set new x (f k (get_or new k a)))) (sym number)
    (AreChanged-more groups f old new i d a distinct h below changed))

-- all that are there are changed
pub AreChanged-there : (groups : List Group) (f : ℕ → Account → Account) (old new : List Account)
    → AreChanged groups f old new → (m : ℕ) → has_group groups m ≡ true
    → get_or new m new_account ≡ f m (get_or old m new_account)
AreChanged-there groups f old new changed m there = changed m ∙ ap (λ b. cond b (f m (get_or old m new_account)) (get_or old m new_account)) there
