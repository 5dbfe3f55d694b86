-- Serves the commands that name a group: the group of a path is there.
use Rattle.std.proofs.Common.{◌≡◌, ℕ, true, Some, List, sym, ap, ◌∙◌, ◌==◌, map, Option}
use Rattle.group_tree.specs.declared.group.Group.{Group}
use Rattle.group_tree.specs.Groups.{has_group, number_at, limited, with_limit}
use Rattle.group_tree.proofs.GroupLemmas.{has_group-any, has_group-contains, limited-number, list_any-map, number_at-contains}

-- the group of a path is there
pub found_there : (groups : List Group) (path : List ℕ) (n : ℕ) → number_at groups path ≡ Some n → has_group groups n ≡ true
found_there groups path n e =
    let found = number_at-contains groups path n e in
    let there : has_group groups found.0.number ≡ true = has_group-contains groups found.0 found.1 in
    rw (← found.3) there

-- another limit of a group leaves the groups that are there
pub has_group-limited : (groups : List Group) (g n : ℕ) (limit : Option ℕ) → has_group (with_limit groups g limit) n ≡ has_group groups n
unfolding with_limit
has_group-limited groups g n limit =
    has_group-any (map (limited g limit) groups) n
    ∙ list_any-map (λ (x : Group). x.number == n) (limited g limit) (λ x. ap (λ k. k == n) (limited-number g limit x)) groups
    ∙ sym (has_group-any groups n)
