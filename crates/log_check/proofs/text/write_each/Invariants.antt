-- Serves the loop of `write_each`: the lines of the steps before this one are written.
use Rattle.std.proofs.Common.{◌≡◌, ◌++◌, take}
use Rattle.std.specs.List.{flat_map}
use Rattle.log_check.specs.Texts.{illegal_text}
use Rattle.log_check.proofs.text.write_each.Given as goal

abbrev pub invariant-loop-illegal : goal.invariant-loop-illegal
invariant-loop-illegal l = l.text.items ≡ l.initial.text.items ++ flat_map illegal_text (take l.illegal-index l.first)
