-- What the lint of one line adds to the findings.
use Rattle.std.specs.Prelude.{◌≡◌, ◌⊎◌, ℕ, Bool, true, Option, None, Some, List, [], ◌∷◌, ◌++◌}
use Rattle.std.specs.Borrow.{Bor}
use Rattle.zone_blocks.specs.declared.config.Config.{Config}
use Rattle.script_lines.specs.declared.verb.Verb.{Verb}
use Rattle.script_lint.specs.Lines.{IsGoodHere, IsSpot}
use Rattle.script_lint.specs.declared.finding.Finding.{Finding}
use Rattle.script_lint.specs.declared.finding.Spot.{Spot}

-- what is found in the line is added: nothing, or where and why it goes wrong, and a command that may be meant
abbrev pub AddsSpot : ℕ → Bor (List ℕ) → Option Spot → List Finding → List Finding → Type 0
AddsSpot number text None old new = new ≡ old
AddsSpot number text (Some spot) old new =
    (near : Option Verb) × (new ≡ old ++ record { line = number; text = text; spot = spot; near = near } ∷ [])

-- the line is good and adds nothing, or adds where and why it goes wrong
abbrev pub AddsFinding : Config → ℕ → Bool → Bool → Bor (List ℕ) → List Finding → List Finding → Type 0
AddsFinding sizes number had_go is_within text old new =
    ((new ≡ old) × IsGoodHere sizes had_go (is_within ≡ true) text.now)
    ⊎ (spot : Spot) × (near : Option Verb)
    × (new ≡ old ++ record { line = number; text = text; spot = spot; near = near } ∷ [])
    × IsSpot sizes had_go (is_within ≡ true) text.now spot
