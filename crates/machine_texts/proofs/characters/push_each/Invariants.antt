use Rattle.std.proofs.Common.{◌≡◌, ◌++◌, take}
use Rattle.std.specs.String.{string_bytes}
use Rattle.machine_texts.specs.Characters.{characters}
use Rattle.machine_texts.proofs.characters.push_each.Given as goal

abbrev pub invariant-loop-code : goal.invariant-loop-code
invariant-loop-code l = string_bytes l.text ≡ string_bytes l.initial.text ++ characters (take l.code-index l.codes)
