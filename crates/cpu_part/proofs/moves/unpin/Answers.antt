use Rattle.cpu_part.proofs.Counts.{parted_at}
use Rattle.cpu_part.proofs.moves.unpin.Goals as goal

pub returns-clause-pins : goal.returns-clause-pins
returns-clause-pins c = parted_at c.args.frame c.in-Some.place c.swap_remove.result _ _ _ c.as_slice.ensures.value c.in-Some.ensures.0 c.in-Some.ensures.1
    c.swap_remove.ensures.value c.swap_remove.ensures.items
