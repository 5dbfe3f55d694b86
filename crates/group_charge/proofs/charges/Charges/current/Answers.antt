use Rattle.std.proofs.Common.{◌<◌, IsTrue, length, sym, ap, ◌∙◌, subst, arith}
use Rattle.group_tree.specs.Groups.{has_group}
use Rattle.group_charge.specs.Charges.{Ledger, current_of}
use Rattle.group_charge.proofs.KeptLemmas.{number_in_room, read_at}
use Rattle.group_charge.proofs.charges.Charges.current.Goals as goal

pub index-requires : goal.index-requires
index-requires c =
    let there : IsTrue (has_group c.self.inside.tree c.args.group) = subst (λ (l : Ledger). IsTrue (has_group l.groups c.args.group)) (sym c.self.view_is) c.requires in
    let below = number_in_room c.self.inside.tree c.args.group c.self.invariant.charges.groups there in
    omega (arith, below, c.self.invariant.usages_are.size, c.number.ensures.value, c.self.inside.usages.ok.0)

pub returns : goal.returns
returns c =
    let usages = c.self.inside.usages.items in
    let there : IsTrue (has_group c.self.inside.tree c.args.group) = subst (λ (l : Ledger). IsTrue (has_group l.groups c.args.group)) (sym c.self.view_is) c.requires in
    let below = number_in_room c.self.inside.tree c.args.group c.self.invariant.charges.groups there in
    let within : c.number.result < length usages = omega (arith, below, c.self.invariant.usages_are.size, c.number.ensures.value) in
    c.index.ensures ∙ read_at usages c.number.result c.args.group c.index.result.now 0 within c.number.ensures.value
    ∙ c.self.invariant.usages_are.sums c.args.group ∙ ap (λ l. current_of l c.args.group) c.self.view_is
