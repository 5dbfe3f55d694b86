use Rattle.std.proofs.Common.{◌≡◌, ◌++◌, take}
use Rattle.std.specs.String.{string_bytes}
use Rattle.script_lint.specs.Texts.{names_text}
use Rattle.script_lint.proofs.text.write_names.Given as goal

-- the names so far were written
abbrev pub invariant-loop-verb : goal.invariant-loop-verb
invariant-loop-verb l = string_bytes l.text ≡ string_bytes l.initial.text ++ names_text (take l.verb-index l.verbs)
