-- The version of the headers.
use Rattle.std.specs.Prelude.{ℕ}

-- the version of both headers that these crates are made for
abbrev pub header_version : ℕ
header_version = 3
