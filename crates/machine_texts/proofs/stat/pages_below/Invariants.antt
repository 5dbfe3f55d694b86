use Rattle.group_tree.specs.declared.group.Group.{Group}
use Rattle.machine_texts.specs.Stat.{pages_shared}
use Rattle.machine_texts.proofs.Counting.{CountedTo}
use Rattle.machine_texts.proofs.stat.pages_below.Given as goal

abbrev pub invariant-loop-row : goal.invariant-loop-row
invariant-loop-row g l = CountedTo (λ (row : Group). pages_shared l.machine l.list l.only_dirty l.group row.number) l.row-items l.row-index l.pages
