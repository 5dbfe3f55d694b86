-- The text of memory.stat (cgroup-v2.rst, memory.stat).
use Rattle.std.specs.Prelude.{ℕ, ◌+◌, ◌*◌, List, ◌++◌, codes}
use Rattle.control_files.specs.Files.{count_line}
use Rattle.control_files.specs.Limit.{page_bytes}
use Rattle.control_files.specs.declared.stat.MemoryStat.{MemoryStat}

-- the pages of all kept units
abbrev pub file_pages : MemoryStat → ℕ
file_pages stat = stat.inactive + stat.active

-- a line for each amount, in bytes: all kept units, the dirty ones, the inactive ones, the active ones
abbrev pub stat_text : MemoryStat → List ℕ
stat_text stat =
    count_line (codes "file") (file_pages stat * page_bytes)
    ++ (count_line (codes "file_dirty") (stat.dirty * page_bytes)
    ++ (count_line (codes "inactive_file") (stat.inactive * page_bytes)
    ++ count_line (codes "active_file") (stat.active * page_bytes)))
