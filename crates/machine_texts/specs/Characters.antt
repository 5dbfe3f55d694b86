-- Characters by their codes.
use Rattle.std.specs.Prelude.{ℕ, List}
use Rattle.std.specs.List.{flat_map}
use Rattle.std.specs.Char.{encode_utf8}

-- the characters that have these codes, in UTF-8: a code below 128 stands for itself
abbrev pub characters : List ℕ → List ℕ
characters bytes = flat_map encode_utf8 bytes
