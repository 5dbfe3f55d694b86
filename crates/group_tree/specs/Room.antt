-- What a charge checks and changes on the path from a group up to the root, for any usage: room under the limits
-- (memory.max of cgroup-v2.rst), peaks (memory.peak) and event counts (memory.events).
use Rattle.std.specs.Prelude.{◌≡◌, ℕ, ◌+◌, ◌-◌, ◌^◌, ◌==◌, max, min, nat_le, Bool, true, false, IsTrue, Option, Some, None, List, if◌then◌else◌}
use Rattle.group_tree.specs.declared.group.Group.{Group}
use Rattle.group_tree.specs.Groups.{in_subtree, limit_of}

-- ---- room
-- the pages are at most the limit, if there is one
abbrev pub fits_limit : Option ℕ → ℕ → Bool
fits_limit None pages = true
fits_limit (Some limit) pages = nat_le pages limit

-- with n more pages the group's usage is at most its own limit
abbrev pub has_room : List Group → (ℕ → ℕ) → ℕ → ℕ → Bool
has_room groups usage g n = fits_limit (limit_of groups g) (usage g + n)

-- the group and each of its ancestors has room for n more pages
abbrev pub PathHasRoom : List Group → (ℕ → ℕ) → ℕ → ℕ → Type 0
PathHasRoom groups usage g n = (m : ℕ) → IsTrue (in_subtree groups m g) → IsTrue (has_room groups usage m n)

-- m is g or an ancestor of g, and has no room; each other such group without room is an ancestor of m
pub record IsLowestOver (groups : List Group) (usage : ℕ → ℕ) (g n m : ℕ) : Type 0 where
  pub on_path : IsTrue (in_subtree groups m g)
  pub over : has_room groups usage m n ≡ false
  pub lowest : (k : ℕ) → IsTrue (in_subtree groups k g) → has_room groups usage k n ≡ false
      → IsTrue (in_subtree groups k m)

-- ---- changes along the path
-- the new value of group m, if f changes the values of g and of each of its ancestors, and no other
abbrev pub on_path : {X : Type 0} → List Group → ℕ → (X → X) → ℕ → X → X
on_path groups g f m x = if in_subtree groups m g then f x else x

-- the new value of group m, if f changes the value of g alone
abbrev pub at_group : {X : Type 0} → ℕ → (X → X) → ℕ → X → X
at_group g f m x = if m == g then f x else x

-- the peak of group m after a charge to g: on the path from g to the root, the greater of the old peak and the
-- present usage
abbrev pub peak_after : List Group → (ℕ → ℕ) → ℕ → ℕ → ℕ → ℕ
peak_after groups usage g m peak = on_path groups g (λ old. max old (usage m)) m peak

-- the greatest event count; a count that reaches it stays there
abbrev pub max_count : ℕ
max_count = 2 ^ 64 - 1

-- a count after one more event
abbrev pub one_more : ℕ → ℕ
one_more count = min (count + 1) max_count
