use Rattle.std.proofs.Common.{rules, Some, ap, sym, ◌∙◌, ◌∷◌}
use Rattle.atomic_table.specs.Table.{rest}
use Rattle.host_memory.proofs.Steps.{takes_out}
use Rattle.host_memory.proofs.try_cell.TryCell.take.Goals as goal

pub swap_new_seat-found-requires : goal.swap_new_seat-found-requires
swap_new_seat-found-requires g c = (search rules, takes_out _)

pub exchange-requires : goal.exchange-requires
exchange-requires g c = let t = c.swap_new_seat-found.ensures.1 c.if-found-ne0.false in let carried = ap (λ m. m.1) t.1 in
    (c.swap_new_seat-found.ensures.0, (Some t.0, carried ∙ ap (λ l. (0, Some t.0) ∷ rest l) (sym carried)))
