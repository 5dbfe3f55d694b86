use Rattle.std.proofs.Common.{◌≡◌, ◌++◌, IfOk}
use Rattle.std.specs.String.{string_bytes}
use Rattle.machine_texts.proofs.UnitLines.{MetSoFar}
use Rattle.machine_texts.proofs.units.write_list.Given as goal

abbrev pub invariant-loop-seen : goal.invariant-loop-seen
invariant-loop-seen g l = MetSoFar g.N.BootName.table l.group l.list l.fn.machine l._seen l.next l.machine
    (λ shown. IfOk l.written (λ _. string_bytes l.text ≡ string_bytes l.fn.text ++ shown))
