use Rattle.std.proofs.Common.{◌≡◌, ◌++◌, take, drop, length, sym, ap, ◌∙◌, subst, rules, ◌<◌, arith, set, IsTrue}
use Rattle.group_tree.specs.{AreGroups, has_group, room_of, with_limit, AreSlots, free_slot}
use Rattle.group_tree.specs.Slots.{slot_at}
use Rattle.group_tree.proofs.GroupLemmas.{AreGroups-limited, length-limited, room_of-limited, take_new}
use Rattle.group_tree.proofs.CallerLemmas.{number_in_room}
use Rattle.std.proofs.lemmas.List.{get_or_default}
use Rattle.group_tree.proofs.SlotLemmas.{AreSlots-limited, limit_set}
use Rattle.group_tree.proofs.tree.Tree.set_max.Goals as goal

pub index_mut-requires : goal.index_mut-requires
index_mut-requires c =
    let here = subst (λ rows. IsTrue (has_group rows c.args.group)) (sym c.self.view_is) c.requires in
    let below = number_in_room c.self.inside.rows.items c.args.group c.self.invariant.0 here in
    omega (arith, below, c.self.invariant.2.size, c.number.ensures.value, c.self.inside.slots.ok.0)

pub invariant_of-self : goal.invariant_of-self
invariant_of-self c =
    let old = c.self.inside.rows.items in
    let new : c.set_limit.new.rows ≡ with_limit old c.args.group c.args.limit = c.set_limit.ensures
    ∙ ap (λ rows. with_limit rows c.args.group c.args.limit) c.as_mut_slice.ensures.value in
    let size : length c.set_limit.new.rows ≡ length old = ap length new ∙ length-limited old c.args.group c.args.limit in
    let whole : take c.self.inside.rows.len (c.set_limit.new.rows ++ drop (length c.set_limit.new.rows) old) ≡ c.set_limit.new.rows =
    take_new c.self.inside.rows.len old c.set_limit.new.rows size (search rules) in
    let slots = c.self.inside.slots.items in
    let was = c.index_mut.result.now in
    let here = subst (λ rows. IsTrue (has_group rows c.args.group)) (sym c.self.view_is) c.requires in
    let there : c.args.group < room_of old = number_in_room old c.args.group c.self.invariant.0 here in
    let within : c.number.result < length slots = omega (arith, there, c.self.invariant.2.size, c.number.ensures.value) in
    let read : was ≡ slot_at slots c.args.group = c.index_mut.ensures.value
    ∙ get_or_default slots c.number.result was free_slot within ∙ ap (slot_at slots) c.number.ensures.value in (
      subst AreGroups (sym (whole ∙ new)) (AreGroups-limited old c.args.group c.args.limit c.self.invariant.0),
      omega (arith, c.self.invariant.1, ap room_of (whole ∙ new) ∙ room_of-limited old c.args.group c.args.limit),
      subst (λ rows. AreSlots rows (set slots c.number.result (record was { limit = c.args.limit }))) (sym (whole ∙ new))
          (subst (AreSlots (with_limit old c.args.group c.args.limit))
          (ap (λ n. limit_set slots n c.args.limit) (sym c.number.ensures.value)
          ∙ ap (λ l. set slots c.number.result (record l { limit = c.args.limit })) (ap (slot_at slots) c.number.ensures.value ∙ sym read))
          (AreSlots-limited old slots c.args.group c.args.limit there c.self.invariant.2)),
    )
