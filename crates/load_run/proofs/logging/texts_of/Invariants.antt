use Rattle.std.proofs.Common.{◌≡◌, ◌++◌, length, map}
use Rattle.script_lines.specs.Script.{texts_left, texts_of}
use Rattle.load_run.proofs.logging.texts_of.Given as goal

-- the texts so far, and those of what is left, are those of the script
abbrev pub invariant-loop-rest : goal.invariant-loop-rest
invariant-loop-rest l = map (λ text. text.now) l.texts.items ++ texts_left l.rest ≡ texts_of l.initial.script

abbrev pub decreases-loop-rest : goal.decreases-loop-rest
decreases-loop-rest l = length (texts_left l.rest)
