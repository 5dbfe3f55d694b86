-- What a writer was given of some bytes.
use Rattle.std.specs.Prelude.{ℕ, List, Option, take}
use Rattle.std.specs.Io.KnownBytes.{Appends}

-- known bytes grow by a beginning of these, which may be nothing or all of them
abbrev pub AppendsBeginning : Option (List ℕ) → Option (List ℕ) → List ℕ → Type 0
AppendsBeginning before after bytes = (count : ℕ) × Appends before after (take count bytes)
