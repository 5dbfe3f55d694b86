-- Why the words of a command line are refused.
use Rattle.std.specs.Prelude.{⊤}
use Rattle.load_options.specs.declared.fault.WordsFault.{WordsFault}
use Rattle.load_options.specs.declared.fault.WordsFault.TheVariants.{BadWords, NoMemory}

-- memory ran out
abbrev pub IsNoMemory : WordsFault → Type 0
IsNoMemory (BadWords text) = ⊥
IsNoMemory (NoMemory e) = ⊤
