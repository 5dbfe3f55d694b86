use Rattle.std.proofs.Common.{◌≡◌, Some, sym, ap, ◌∙◌, subst}
use Rattle.std.proofs.lemmas.Bool.{true≢false}
use Rattle.group_tree.specs.{AreGroups, AreSlots}
use Rattle.group_tree.specs.Slots.{slot_at}
use Rattle.group_tree.proofs.GroupLemmas.{parent_of-root}
use Rattle.group_tree.proofs.SlotLemmas.{parent-slot}
use Rattle.group_tree.proofs.tree.Tree.parent.Goals as goal

pub returns-then-number-eq0-clause-value : goal.returns-then-number-eq0-clause-value
returns-then-number-eq0-clause-value c =
    sym (parent_of-root c.args.self.now c.args.group (sym c.number.ensures.value ∙ c.if-number-eq0.true))

pub returns-clause-value : goal.returns-clause-value
returns-clause-value c =
    let groups = subst AreGroups c.self.view_is c.self.invariant.0 in
    let slots = subst (λ rows. AreSlots rows c.self.inside.slots.items) c.self.view_is c.self.invariant.2 in
    let same : c.slot_at.result ≡ slot_at c.self.inside.slots.items c.args.group = cc in
    ap (λ l. Some l.parent) same
    ∙ sym (parent-slot c.args.self.now c.self.inside.slots.items c.args.group groups slots c.requires (λ e. c.if-number-eq0.false (c.number.ensures.value ∙ e)))

pub returns-clause-root : goal.returns-clause-root
returns-clause-root c = (λ none. absurd (true≢false none), λ e. absurd (c.if-number-eq0.false (c.number.ensures.value ∙ e)))
