-- Usage falls by what is uncharged. Serves callers.
use Rattle.std.proofs.Common.{ℕ, ◌-◌, ◌≤◌, ◌==◌, Bool, true, false, Option, Some, None, List, [], ◌∷◌, cond, map, arith}
use Rattle.std.proofs.lemmas.Bool.{cond_both}
use Rattle.std.proofs.lemmas.List.Sums.{sum_by-cons}
use Rattle.group_tree.specs.declared.group.Group.{Group}
use Rattle.group_tree.specs.Groups.{in_subtree}
use Rattle.group_charge.specs.declared.account.Account as charge
use Rattle.group_charge.specs.Charges.{Ledger, current_of, usage_charged, taken}
use Rattle.group_charge.proofs.SumLemmas.{share}
use Rattle.mem_machine.specs.Stocks.{uncharged}

less_if : (b : Bool) (p n : ℕ) → cond b (p - n) 0 ≤ cond b p 0
less_if true p n = omega arith
less_if false p n = omega arith

usage_falls : (groups : List Group) (xs : List charge.Account) (g n m : ℕ) → usage_charged groups (map (taken g n) xs) m ≤ usage_charged groups xs m
unfolding usage_charged
usage_falls groups [] g n m = omega arith
usage_falls groups (x ∷ xs) g n m =
    let here : share groups m (taken g n x) ≤ share groups m x = cond_both (x.group == g) (record x { pages = x.pages - n }) x
    (λ (y : charge.Account). share groups m y ≤ share groups m x) (λ _. less_if (in_subtree groups m x.group) x.pages n) (λ _. omega arith) in
    let rest = usage_falls groups xs g n m in
    let a = sum_by-cons (share groups m) (taken g n x) (map (taken g n) xs) in
    let b = sum_by-cons (share groups m) x xs in
    omega (arith, here, rest, a, b)

pub current_falls : (l : Ledger) (o : Option ℕ) (n m : ℕ) → current_of (uncharged l o n) m ≤ current_of l m
current_falls l None n m = omega arith
current_falls l (Some g) n m = usage_falls l.groups l.accounts g n m
