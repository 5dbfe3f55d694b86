use Rattle.std.proofs.Common.{◌≡◌, ◌++◌, take}
use Rattle.std.specs.List.{flat_map}
use Rattle.std.specs.String.{string_bytes}
use Rattle.machine_texts.specs.Show.{usage_text}
use Rattle.machine_texts.proofs.show.write_show.Given as goal

abbrev pub invariant-loop-group : goal.invariant-loop-group
invariant-loop-group g l = string_bytes l.text ≡ string_bytes l.initial.text ++ flat_map (usage_text l.charges) (take l.group-index l.group-items)
