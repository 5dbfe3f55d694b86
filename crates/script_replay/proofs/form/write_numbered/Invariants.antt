use Rattle.std.specs.String.{string_bytes}
use Rattle.script_replay.proofs.Numbering.{AreNumbered}
use Rattle.script_replay.proofs.form.write_numbered.Given as goal

abbrev pub invariant-loop-line : goal.invariant-loop-line
invariant-loop-line l = AreNumbered l.number l.line-items l.line-index (string_bytes l.initial.text) (string_bytes l.text)
