-- The paths of groups: `/` is the root, and a group below it has a name after each slash.
use Rattle.std.specs.Prelude.{ℕ, ◌==◌, ◌&&◌, ◌||◌, Bool, not, nat_eq, nat_le, nat_lt, IsTrue, List, [], ◌∷◌, length, drop, if◌then◌else◌, codes}
use Rattle.std.specs.List.{slice_split, list_all, before_last, starts_with}
use Rattle.std.specs.Str.{bytes_eq}
use Rattle.group_tree.specs.Bounds.{longest_name, longest_path}

-- the byte before each name
abbrev pub is_slash : ℕ → Bool
is_slash byte = byte == 47

-- the path of the root
abbrev pub root_path : List ℕ
root_path = codes "/"

-- the path is the root's
abbrev pub is_root : List ℕ → Bool
is_root path = bytes_eq path root_path

-- the names of a path, from the root down; slashes separate them, and the root has none
unfoldable pub names_of : List ℕ → List (List ℕ)
names_of path = if is_root path then [] else drop 1 (slice_split is_slash path)

-- how many names a path has: its depth below the root
abbrev pub depth_of : List ℕ → ℕ
depth_of path = length (names_of path)

-- the path, or the root's path if it is empty
abbrev pub or_root : List ℕ → List ℕ
or_root [] = root_path
or_root (b ∷ bs) = b ∷ bs

-- the path without its last name: what precedes its last slash, or the root's path if nothing does
unfoldable pub parent_path : List ℕ → List ℕ
parent_path path = or_root (before_last is_slash path)

-- the byte may appear in a name: it is above 32 and below 127, and no slash
abbrev pub is_name_byte : ℕ → Bool
is_name_byte byte = nat_lt 32 byte && nat_lt byte 127 && not (is_slash byte)

-- `.` and `..` name no group
abbrev pub is_dots : List ℕ → Bool
is_dots name = bytes_eq name (codes ".") || bytes_eq name (codes "..")

-- a name has 1 to `longest_name` such bytes, and is neither `.` nor `..`
unfoldable pub is_name : List ℕ → Bool
is_name name = nat_le 1 (length name) && nat_le (length name) longest_name && list_all is_name_byte name
    && not (is_dots name)

-- a path has at most `longest_path` bytes, begins with a slash, and has only names between its slashes
unfoldable pub is_well_formed : List ℕ → Bool
is_well_formed path = nat_le (length path) longest_path && starts_with nat_eq path root_path
    && list_all is_name (names_of path)

-- the path is well-formed, as a statement
abbrev pub IsWellFormed : List ℕ → Type 0
IsWellFormed path = IsTrue (is_well_formed path)
