use Rattle.std.proofs.Common.{ap, rules, subst, sym}
use Rattle.atomic_table.specs.Table.{Allows, rest}
use Rattle.host_memory.specs.Cells.{IsGuarded, Gives}
use Rattle.host_memory.proofs.Steps.{gives_back}
use Rattle.host_memory.proofs.try_cell.TryCell.put_back.Goals as goal

pub store-requires : goal.store-requires
store-requires g c =
    let seat = c.exchange-left.new.seat in (
      search rules,
      search rules,
      subst (λ n. Allows IsGuarded n seat.id seat.me 0 (λ _. 0) (λ _. Gives seat.me)) (sym c.args.self.now.sized.1)
          (gives_back _ _ _ _ _ c.exchange-left.ensures.3 (ap rest c.loan.inside.emptied)),
    )
