-- What a call adds to a string.
use Rattle.std.specs.Prelude.{◌≡◌, ◌++◌, IfOk, List, Result, ℕ}
use Rattle.std.specs.String.{string_bytes}
use Rattle.std.specs.declared.string.String.{String}

-- if the call succeeds, the new string is the old one followed by this text
abbrev pub AddsBytes : {Z T E : Type 0} → Result T E → String Z → String Z → List ℕ → Type 0
AddsBytes result old new text = IfOk result (λ _. string_bytes new ≡ string_bytes old ++ text)
