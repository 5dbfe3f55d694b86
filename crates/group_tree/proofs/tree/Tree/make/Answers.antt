use Rattle.std.proofs.Common.{◌≡◌, ◌∷◌, [], sym, ap, ◌∙◌, subst, rules, arith, true, None, is_some, set, IsTrue}
use Rattle.std.proofs.lemmas.Slice.{pushed}
use Rattle.group_tree.specs.{depth_of, AreGroups, has_group, new_row, number_at, room_of, with_group, AreSlots}
use Rattle.group_tree.proofs.SlotLemmas.{AreSlots-with}
use Rattle.group_tree.proofs.GroupLemmas.{AreGroups-with, can_make, room_of-with}
use Rattle.group_tree.proofs.CallerLemmas.{has_group-with_kept, has_group-with_new}
use Rattle.group_tree.proofs.tree.Tree.make.Goals as goal

pub least_free-number-requires : goal.least_free-number-requires
least_free-number-requires c = (can_make c.args.self.now c.args.path.now (sym c.make_fault.ensures ∙ c.in_default.is)).room

pub unwrap-path-requires : goal.unwrap-path-requires
unwrap-path-requires c =
    let short = (can_make c.args.self.now c.args.path.now (sym c.make_fault.ensures ∙ c.in_default.is)).short in
    search (rules, short)

pub unwrap-requires : goal.unwrap-requires
unwrap-requires c =
    let room = (can_make c.args.self.now c.args.path.now (sym c.make_fault.ensures ∙ c.in_default.is)).room in
    search (rules, room)

pub index_mut-requires : goal.index_mut-requires
index_mut-requires c =
    omega (arith, c.least_free-number.ensures.below, ap room_of c.self.view_is, c.self.invariant.2.size, c.number.ensures.value, c.self.inside.slots.ok.0)

pub invariant_of-self : goal.invariant_of-self
invariant_of-self c =
    let old = subst AreGroups c.self.view_is c.self.invariant.0 in
    let can = can_make c.args.self.now c.args.path.now (sym c.make_fault.ensures ∙ c.in_default.is) in
    let path : c.unwrap-path.result ≡ c.args.path.now = search rules in
    let rows : c.push.new.self.items ≡ with_group c.args.self.now c.least_free-number.result c.unwrap-path.result =
    pushed (new_row c.least_free-number.result c.unwrap-path.result ∷ []) c.self.view_is c.unwrap.ensures
    c.push.ensures.items in
    let new = AreGroups-with c.args.self.now c.least_free-number.result c.args.path.now old can c.least_free-number.ensures.below
    c.least_free-number.ensures.number.free in
    let slots = c.self.inside.slots.items in
    let whole = rows ∙ ap (with_group c.args.self.now c.least_free-number.result) path in (
      subst AreGroups (sym whole) new,
      omega
          (arith, c.self.invariant.1, ap room_of whole, room_of-with c.args.self.now c.least_free-number.result c.args.path.now, ap room_of c.self.view_is, c.push.ensures),
      subst (λ r. AreSlots r (set slots c.number.result
          (record { is_there = true; parent = c.unwrap-parent.result; depth = c.depth-depth.result; limit = None })))
          (sym whole)
          (subst (AreSlots (with_group c.args.self.now c.least_free-number.result c.args.path.now))
          (ap (λ n. set slots n (record { is_there = true; parent = c.unwrap-parent.result; depth = depth_of c.args.path.now; limit = None }))
          (sym c.number.ensures.value)
          ∙ ap (λ d. set slots c.number.result (record { is_there = true; parent = c.unwrap-parent.result; depth = d; limit = None })) (sym c.depth-depth.ensures))
          (AreSlots-with c.args.self.now slots c.least_free-number.result c.unwrap-parent.result c.args.path.now old
          (subst (λ r. AreSlots r slots) c.self.view_is c.self.invariant.2) can c.least_free-number.ensures.below
          c.least_free-number.ensures.number.free (sym (ap (number_at c.args.self.now) c.parent_path.ensures) ∙ sym c.find.ensures ∙ c.unwrap-parent.ensures))),
    )

pub unwrap-parent-requires : goal.unwrap-parent-requires
unwrap-parent-requires c =
    ap is_some (c.find.ensures ∙ ap (number_at c.args.self.now) c.parent_path.ensures)
    ∙ (can_make c.args.self.now c.args.path.now (sym c.make_fault.ensures ∙ c.in_default.is)).parent

pub depth-depth-requires : goal.depth-depth-requires
depth-depth-requires c = (can_make c.args.self.now c.args.path.now (sym c.make_fault.ensures ∙ c.in_default.is)).formed

pub returns-clause-made : goal.returns-clause-made
returns-clause-made c =
    let path : c.unwrap-path.result ≡ c.args.path.now = search rules in
    let rows : c.push.new.self.items ≡ with_group c.args.self.now c.least_free-number.result c.unwrap-path.result =
    pushed (new_row c.least_free-number.result c.unwrap-path.result ∷ []) c.self.view_is c.unwrap.ensures
    c.push.ensures.items in
    rows ∙ ap (with_group c.args.self.now c.least_free-number.result) path

pub returns-clause-there : goal.returns-clause-there
returns-clause-there c =
    subst (λ rows. IsTrue (has_group rows c.least_free-number.result)) (sym (returns-clause-made c))
    (has_group-with_new c.args.self.now c.least_free-number.result c.args.path.now c.least_free-number.ensures.number.free)

pub returns-clause-kept : goal.returns-clause-kept
returns-clause-kept c = λ m there.
    subst (λ rows. IsTrue (has_group rows m)) (sym (returns-clause-made c))
    (has_group-with_kept c.args.self.now c.least_free-number.result m c.args.path.now c.least_free-number.ensures.number.free there)
