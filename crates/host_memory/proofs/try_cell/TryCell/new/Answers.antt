use Rattle.std.proofs.Common.{ap, refl, ◌∙◌, ◌++◌, ◌∷◌, [], Some}
use Rattle.host_memory.proofs.try_cell.TryCell.new.Goals as goal

pub new-requires : goal.new-requires
new-requires g c =
    let e = c.push_reserved.ensures.items ∙ ap (λ l. l ++ Some c.args.value ∷ []) c.in-Ok.ensures.items in
    rw e (record { one = refl; home = λ _. (c.args.value, refl); out = λ held. absurd (held refl) })
