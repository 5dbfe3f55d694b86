use Rattle.std.proofs.Common.{◌≡◌, ◌∷◌, [], ◌+◌, sym, ap, ◌∙◌, subst, rules, arith, true, set, replicate}
use Rattle.std.proofs.lemmas.Slice.{pushed}
use Rattle.group_tree.specs.{AreGroups, initial_groups, room_of, AreSlots, free_slot}
use Rattle.group_tree.proofs.GroupLemmas.{AreGroups-initial, room_of-initial}
use Rattle.group_tree.proofs.SlotLemmas.{AreSlots-initial}
use Rattle.group_tree.proofs.tree.Tree.new.Goals as goal

pub invariant_of-result : goal.invariant_of-result
invariant_of-result c =
    let below = c.args.descendants in
    let rows : c.push.new.self.items ≡ initial_groups below =
    pushed (c.root_group.result ∷ []) c.in_ok-rows.ensures.items c.unwrap.ensures c.push.ensures.items ∙ ap (λ r. r ∷ []) c.root_group.ensures in
    let all : c.in_ok-slots.slots.items ≡ replicate (1 + below) free_slot = c.in_ok-slots.ensures ∙ ap (λ n. replicate n free_slot) (omega arith) in
    let was : c.index_mut.result.now ≡ free_slot = c.index_mut.ensures.value ∙ sym c.index_mut.ensures.value ∙ search rules in (
      subst AreGroups (sym rows) (AreGroups-initial below c.requires),
      omega (arith, c.in_ok-rows.ensures.capacity, c.push.ensures, ap room_of rows, room_of-initial below),
      subst (λ r. AreSlots r (set c.in_ok-slots.slots.items 0 (record c.index_mut.result.now { is_there = true }))) (sym rows)
          (AreSlots-initial below _ (ap (λ s. set s 0 (record c.index_mut.result.now { is_there = true })) all
          ∙ ap (λ l. set (replicate (1 + below) free_slot) 0 (record l { is_there = true })) was)),
    )
