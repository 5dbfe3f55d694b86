use Rattle.std.proofs.Common.{◌≡◌, ◌++◌, take}
use Rattle.std.specs.List.{flat_map}
use Rattle.std.specs.String.{string_bytes}
use Rattle.script_lint.specs.Refused.{refused_line_text}
use Rattle.script_lint.proofs.refused.write_refused.Given as goal

-- the refused lines so far were written
abbrev pub invariant-loop-line : goal.invariant-loop-line
invariant-loop-line l =
    string_bytes l.text ≡ string_bytes l.initial.text ++ flat_map (refused_line_text l.name) (take l.line-index l.refused)
