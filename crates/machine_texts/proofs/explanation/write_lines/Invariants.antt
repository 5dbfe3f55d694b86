use Rattle.std.proofs.Common.{◌≡◌, ◌++◌, None, drop}
use Rattle.std.specs.String.{string_bytes}
use Rattle.machine_texts.specs.Explanation.{notes_text}
use Rattle.machine_texts.proofs.explanation.write_lines.Given as goal

abbrev pub invariant-loop-note : goal.invariant-loop-note
invariant-loop-note l =
    string_bytes l.text ++ notes_text l.tree l.gone l.usage (drop l.note-index l.notes) ≡ string_bytes l.initial.text ++ notes_text l.tree l.gone None l.notes
