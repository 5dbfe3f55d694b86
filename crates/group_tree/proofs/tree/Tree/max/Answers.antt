use Rattle.std.proofs.Common.{◌≡◌, ap, ◌∙◌, subst}
use Rattle.group_tree.specs.Slots.{AreSlots, slot_at}
use Rattle.group_tree.proofs.SlotLemmas.{limit-slot}
use Rattle.group_tree.proofs.tree.Tree.max.Goals as goal

pub returns : goal.returns
returns c =
    let slots = subst (λ rows. AreSlots rows c.self.inside.slots.items) c.self.view_is c.self.invariant.2 in
    let same : c.slot_at.result ≡ slot_at c.self.inside.slots.items c.args.group = cc in
    ap (λ l. l.limit) same ∙ limit-slot c.args.self.now c.self.inside.slots.items c.args.group slots c.requires
