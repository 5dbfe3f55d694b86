use Rattle.std.proofs.Common.{◌==◌, not, set, sym, ap, ◌∙◌, subst, rules, tests, arith}
use Rattle.std.proofs.lemmas.Fn.{filter_same}
use Rattle.group_tree.specs.Groups.{Group, AreGroups, room_of, without_group}
use Rattle.group_tree.proofs.GroupLemmas.{AreGroups-without, room_of-without}
use Rattle.group_tree.proofs.CallerLemmas.{number_in_room}
use Rattle.group_tree.specs.Slots.{AreSlots, free_slot}
use Rattle.group_tree.proofs.SlotLemmas.{AreSlots-without}
use Rattle.group_tree.proofs.tree.Tree.remove.Goals as goal

pub returns : goal.returns
unfolding without_group
returns c = filter_same _ (λ (g : Group). not (g.number == c.args.group)) _ (λ x b q k. search (rules, tests)) _ _ c.retain.ensures.filtered
    ∙ ap (λ rows. without_group rows c.args.group) c.self.view_is

pub index_mut-requires : goal.index_mut-requires
index_mut-requires c =
    let old = subst AreGroups c.self.view_is c.self.invariant.0 in
    let below = number_in_room c.args.self.now c.args.group old c.requires.there in
    omega (arith, below, ap room_of c.self.view_is, c.self.invariant.2.size, c.number-number.ensures.value, c.self.inside.slots.ok.0)

pub invariant_of-self : goal.invariant_of-self
invariant_of-self c =
    let old = subst AreGroups c.self.view_is c.self.invariant.0 in
    let slots = c.self.inside.slots.items in
    let same = room_of-without c.args.self.now c.args.group c.requires.below_root in (
      subst AreGroups (sym (returns c)) (AreGroups-without c.args.self.now c.args.group old c.requires.leaf c.requires.below_root),
      omega
          (arith, c.self.invariant.1, ap room_of (returns c), same, ap room_of c.self.view_is),
      subst (λ rows. AreSlots rows (set slots c.number-number.result c.free_slot.result)) (sym (returns c))
          (subst (AreSlots (without_group c.args.self.now c.args.group)) (ap (λ n. set slots n free_slot) (sym c.number-number.ensures.value)
          ∙ ap (set slots c.number-number.result) (sym c.free_slot.ensures))
          (AreSlots-without c.args.self.now slots c.args.group (number_in_room c.args.self.now c.args.group old c.requires.there) c.requires.below_root
          (subst (λ rows. AreSlots rows slots) c.self.view_is c.self.invariant.2))),
    )
