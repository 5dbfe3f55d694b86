use Rattle.std.proofs.Common.{◌≡◌, ◌++◌, take, drop, length, sym, ap, ◌∙◌, subst, rules, arith}
use Rattle.group_tree.specs.{AreGroups, room_of, with_oom_group, AreSlots}
use Rattle.group_tree.proofs.GroupLemmas.{AreGroups-flagged, length-flagged, room_of-flagged, take_new}
use Rattle.group_tree.proofs.SlotLemmas.{AreSlots-flagged}
use Rattle.group_tree.proofs.tree.Tree.set_oom_group.Goals as goal

pub invariant_of-self : goal.invariant_of-self
invariant_of-self c =
    let old = c.self.inside.rows.items in
    let new : c.set_flag.new.rows ≡ with_oom_group old c.args.group c.args.oom_group = c.set_flag.ensures
    ∙ ap (λ rows. with_oom_group rows c.args.group c.args.oom_group) c.as_mut_slice.ensures.value in
    let size : length c.set_flag.new.rows ≡ length old = ap length new ∙ length-flagged old c.args.group c.args.oom_group in
    let whole : take c.self.inside.rows.len (c.set_flag.new.rows ++ drop (length c.set_flag.new.rows) old) ≡ c.set_flag.new.rows =
    take_new c.self.inside.rows.len old c.set_flag.new.rows size (search rules) in (
      subst AreGroups (sym (whole ∙ new)) (AreGroups-flagged old c.args.group c.args.oom_group c.self.invariant.0 c.requires.below_root),
      omega (arith, c.self.invariant.1, ap room_of (whole ∙ new) ∙ room_of-flagged old c.args.group c.args.oom_group),
      subst (λ rows. AreSlots rows c.self.inside.slots.items) (sym (whole ∙ new)) (AreSlots-flagged old c.self.inside.slots.items c.args.group c.args.oom_group c.self.invariant.2),
    )
