use Rattle.std.proofs.Common.{◌≡◌, ◌++◌, take}
use Rattle.std.specs.List.{flat_map}
use Rattle.std.specs.String.{string_bytes}
use Rattle.script_lint.specs.Texts.{finding_text}
use Rattle.script_lint.proofs.text.write_findings.Given as goal

-- the findings so far were written
abbrev pub invariant-loop-finding : goal.invariant-loop-finding
invariant-loop-finding l =
    string_bytes l.text ≡ string_bytes l.initial.text ++ flat_map (finding_text l.name l.sizes) (take l.finding-index l.findings)
