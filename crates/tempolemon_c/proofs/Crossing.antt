-- From the boot behind a handle to the one that its pointer leads to. Serves `Handle::show`.
use Rattle.std.proofs.Common.{ℕ, Some, None}
use Rattle.std.specs.Prelude.{IsSomeAnd, Option}
use Rattle.control_files.specs.declared.file.File.{File}
use Rattle.boot_words.specs.Tables.{KnownTable}
use Rattle.host_memory.specs.{led_of}
use Rattle.tempolemon_c.specs.{GroupHasFiles, KnownLive, HasFileBehind}

-- the boot that the pointer leads to has the group
pub file_behind : (group : ℕ) (file : File) (f : KnownTable) (o : Option KnownLive)
    → IsSomeAnd (led_of f o) (HasFileBehind group file) → IsSomeAnd o (GroupHasFiles group file)
file_behind group file f None has = absurd has
file_behind group file f (Some live) has = has
