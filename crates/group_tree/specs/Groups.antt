-- The tree of groups, as contracts see it: the list of its groups, in the order in which they were made.
use Rattle.std.specs.Prelude.{◌≡◌, ◌≢◌, ℕ, ◌+◌, ◌<◌, ◌≤◌, ◌==◌, ◌&&◌, ◌||◌, Bool, false, not, nat_le, nat_lt, IsTrue, IsSomeAnd, Option, Some, None}
use Rattle.std.specs.Prelude.{is_some, is_none, List, [], ◌∷◌, ◌++◌, length, slice_get, map, filter, if◌then◌else◌, All, AllPairs}
use Rattle.std.specs.List.{find, list_any, starts_with}
use Rattle.std.specs.Option.{option_map, option_and_then, option_map_or}
use Rattle.std.specs.Str.{bytes_eq}
use Rattle.group_tree.specs.Path.{root_path, is_root, names_of, depth_of, parent_path, is_well_formed, IsWellFormed}
use Rattle.group_tree.specs.Bounds.{most_groups, most_names}
use Rattle.group_tree.specs.declared.fault.Fault.{Fault}
use Rattle.group_tree.specs.declared.fault.Fault.TheVariants.{NoParent, Exists, BadName, TreeFull, TooDeep}
-- a group has a number, a path, a limit in pages, a flag: whether it is killed as a whole, and of the root how many
-- groups may exist below it; of the others this is 0
pub use Rattle.group_tree.specs.declared.group.Group.{Group}

-- a new group, which has no limit and its flag off
abbrev pub new_row : ℕ → List ℕ → Group
new_row n path = record { number = n; path = path; limit = None; oom_group = false; descendants = 0 }

-- the root of a new tree, below which this many groups may exist
abbrev pub the_root : ℕ → Group
the_root descendants = record (new_row 0 root_path) { descendants = descendants }

-- the tree begins with the root alone
abbrev pub initial_groups : ℕ → List Group
initial_groups descendants = the_root descendants ∷ []

-- the group of this number
unfoldable pub group_at : List Group → ℕ → Option Group
group_at groups n = find (λ g. g.number == n) groups

-- the number of the group with this path
unfoldable pub number_at : List Group → List ℕ → Option ℕ
number_at groups path = option_map (λ g. g.number) (find (λ g. bytes_eq g.path path) groups)

-- there is a group of this number
unfoldable pub has_group : List Group → ℕ → Bool
has_group groups n = is_some (group_at groups n)

-- the path of the group of this number
unfoldable pub path_of : List Group → ℕ → Option (List ℕ)
path_of groups n = option_map (λ g. g.path) (group_at groups n)

-- the limit of the group of this number, in pages
unfoldable pub limit_of : List Group → ℕ → Option ℕ
limit_of groups n = option_and_then (λ g. g.limit) (group_at groups n)

-- memory.oom.group: the group of this number is killed as a whole
unfoldable pub is_oom_group : List Group → ℕ → Bool
is_oom_group groups n = option_map_or (λ g. g.oom_group) (group_at groups n) false

-- how many groups may exist at once: the root, and as many as may exist below it (cgroup.max.descendants of the root,
-- cgroup-v2.rst)
unfoldable pub room_of : List Group → ℕ
room_of groups = 1 + option_map_or (λ g. g.descendants) (group_at groups 0) 0

-- both paths exist, and the second begins with the names of the first
abbrev pub begins : Option (List ℕ) → Option (List ℕ) → Bool
begins (Some above) (Some below) = starts_with bytes_eq (names_of below) (names_of above)
begins _ _ = false

-- the second group is the first or lies below it
unfoldable pub in_subtree : List Group → ℕ → ℕ → Bool
in_subtree groups g h = begins (path_of groups g) (path_of groups h)

-- another group lies below it
unfoldable pub has_child : List Group → ℕ → Bool
has_child groups n = list_any (λ g. not (g.number == n) && in_subtree groups n g.number) groups

-- the number of the group's parent; the root has none
unfoldable pub parent_of : List Group → ℕ → Option ℕ
parent_of groups n =
    if n == 0 then None else option_and_then (λ path. number_at groups (parent_path path)) (path_of groups n)

-- no group has this number, and each lesser number is a group's
pub record IsLeastFreeNumber (groups : List Group) (n : ℕ) : Type 0 where
  pub free : has_group groups n ≡ false
  pub least : (k : ℕ) → k < n → IsTrue (has_group groups k)

-- why a group with this path can't be made: the first cause that holds
unfoldable pub make_fault : List Group → List ℕ → Option Fault
make_fault groups path =
    if not (is_well_formed path) || is_root path then Some BadName
    else (if nat_lt most_names (depth_of path) then Some TooDeep
    else (if is_some (number_at groups path) then Some Exists
    else (if is_none (number_at groups (parent_path path)) then Some NoParent
    else (if nat_le (room_of groups) (length groups) then Some TreeFull
    else None))))

-- the groups, and after them one more, with no limit and its flag off
abbrev pub with_group : List Group → ℕ → List ℕ → List Group
with_group groups n path = groups ++ new_row n path ∷ []

-- the groups without the one of this number; the others keep their order
unfoldable pub without_group : List Group → ℕ → List Group
without_group groups n = filter (λ g. not (g.number == n)) groups

-- the group with this limit, if it has the number n
abbrev pub limited : ℕ → Option ℕ → Group → Group
limited n limit g = if g.number == n then record g { limit = limit } else g

-- the group of number n has this limit, and all else stays
unfoldable pub with_limit : List Group → ℕ → Option ℕ → List Group
with_limit groups n limit = map (limited n limit) groups

-- the group with this flag, if it has the number n
abbrev pub flagged : ℕ → Bool → Group → Group
flagged n flag g = if g.number == n then record g { oom_group = flag } else g

-- the group of number n has this flag, and all else stays
unfoldable pub with_oom_group : List Group → ℕ → Bool → List Group
with_oom_group groups n flag = map (flagged n flag) groups

-- What holds of the groups of every tree. There are at most as many as its room, which is at most `most_groups`, each
-- with a number below the room and a path of at most `most_names` names. No two have the same number or path. The root
-- is the first, and its flag is off. Each group's parent exists.
pub record AreGroups (groups : List Group) : Type 0 where
  pub few : length groups ≤ room_of groups
  pub room : room_of groups ≤ most_groups
  pub root : IsSomeAnd (slice_get groups 0) (λ g. (g.number ≡ 0) × (g.path ≡ root_path))
  pub root_flag : is_oom_group groups 0 ≡ false
  pub numbers : All (λ g. g.number < room_of groups) groups
  pub paths : All (λ g. IsWellFormed g.path) groups
  pub depths : All (λ g. depth_of g.path ≤ most_names) groups
  pub numbers_distinct : AllPairs (λ g h. g.number ≢ h.number) groups
  pub paths_distinct : AllPairs (λ g h. g.path ≢ h.path) groups
  pub parents : All (λ g. IsTrue (is_some (number_at groups (parent_path g.path)))) groups
