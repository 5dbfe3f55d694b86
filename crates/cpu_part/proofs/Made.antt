-- Lists of steps that are made under the lock, one after the other.
use Rattle.std.specs.Prelude.{◌≡◌, [], ◌∷◌}
use Rattle.step_rules.specs.After.{Run}
use Rattle.boot_words.specs.Pasts.{KnownPasts, MakesStep}
use Rattle.boot_words.specs.Tables.{KnownTable}

-- the steps were made in this order, with these answers
abbrev pub MakesAll : KnownTable → KnownPasts → Run → KnownPasts → Type 0
MakesAll t s [] s' = s' ≡ s
MakesAll t s (made ∷ rest) s' = (between : KnownPasts) × MakesStep t s made.0.seat made.0.action made.1 between
    × MakesAll t between rest s'
