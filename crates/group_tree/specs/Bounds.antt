-- How large a tree of groups and its paths may be.
use Rattle.std.specs.Prelude.{ℕ}

-- the most groups that a tree may have room for, the root included
abbrev pub most_groups : ℕ
most_groups = 1024

-- the most names of a path (Linux sets such a bound by cgroup.max.depth, cgroup-v2.rst)
abbrev pub most_names : ℕ
most_names = 8

-- the most bytes of a name (NAME_MAX, linux/limits.h)
abbrev pub longest_name : ℕ
longest_name = 255

-- the most bytes of a path (Linux sets such a bound by PATH_MAX, linux/limits.h)
abbrev pub longest_path : ℕ
longest_path = 512
