-- What is hardly meant, though it isn't refused.
use Rattle.std.specs.Prelude.{◌≡◌, ℕ, ◌<◌, ◌≤◌, Bool, true, List, ◌||◌, codes}
use Rattle.std.specs.Str.{bytes_eq}
use Rattle.control_files.specs.Limit.{page_bytes}
use Rattle.script_lines.specs.Script.{WritesNumber}
use Rattle.script_lines.specs.declared.line.Command.{Command}
use Rattle.script_lines.specs.declared.line.Command.TheVariants.{Write}
use Rattle.script_lint.specs.declared.refusal.Refusal.{Refusal}
use Rattle.script_lint.specs.declared.refusal.Refusal.TheVariants.{LessThanPage}

-- a file of this name takes a number of bytes
abbrev pub takes_bytes : List ℕ → Bool
takes_bytes name =
    bytes_eq name (codes "memory.max") || bytes_eq name (codes "memory.high")
    || bytes_eq name (codes "memory.low") || bytes_eq name (codes "memory.min")
    || bytes_eq name (codes "memory.reclaim")

-- the value is a number below that of a page's bytes, and isn't 0
abbrev pub IsFewBytes : List ℕ → Type 0
IsFewBytes value = (bytes : ℕ) × WritesNumber value bytes × (1 ≤ bytes) × (bytes < page_bytes)

-- why the command is hardly meant: fewer bytes than a page are written, as if pages were meant
abbrev pub IsDoubtful : Command → Refusal → Type 0
IsDoubtful (Write path file value) LessThanPage = (takes_bytes file.now ≡ true) × IsFewBytes value.now
IsDoubtful command why = ⊥
