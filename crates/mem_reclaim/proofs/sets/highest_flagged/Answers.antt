use Rattle.std.proofs.Common.{◌≡◌, ℕ, Bool, Option, sym, ap, ◌∙◌, subst}
use Rattle.std.proofs.lemmas.Bool.{eqb-false, eqb-true}
use Rattle.group_tree.proofs.CallerLemmas.{in_subtree-below}
use Rattle.mem_reclaim.specs.Sets.{IsFlaggedAbove}
use Rattle.mem_reclaim.proofs.KilledRoots.{RootSoFar, root_after, root_end, head_first, root_on, root_turn, never_past, never_root}
use Rattle.mem_reclaim.proofs.sets.highest_flagged.Goals as goal
use Rattle.mem_reclaim.proofs.sets.highest_flagged.Goals.{then-is_oom_group, else-is_oom_group}

pub ancestors-above-items-requires : goal.ancestors-above-items-requires
ancestors-above-items-requires c = in_subtree-below c.args.tree.now c.args.limited c.args.victim c.requires

pub loop-above-init : goal.loop-above-init
loop-above-init c =
    head_first c.args.tree.now c.args.limited c.args.victim c.into_iter-above-iterator.result
    (in_subtree-below c.args.tree.now c.args.limited c.args.victim c.requires)
    (c.into_iter-above-iterator.ensures.into_iter_gives ∙ c.ancestors-above-items.ensures.value)

pub is_oom_group-requires : goal.is_oom_group-requires
is_oom_group-requires c =
    (root_turn c.args.tree.now c.prove_groups.ensures.legal c.args.limited c.args.victim c.in-Some.above c.loop-above.killed_root c.loop-above.above-iterator
    c.next.new.self c.loop-above.invariant c.in-Some.ensures.steps).turn.there

pub loop-above-preserved : goal.loop-above-preserved
loop-above-preserved c =
    let groups = c.args.tree.now in
    let facts = c.prove_groups.ensures.legal in
    let m = c.in-Some.above in
    let t = root_turn groups facts c.args.limited c.args.victim m c.loop-above.killed_root c.loop-above.above-iterator c.next.new.self c.loop-above.invariant
    c.in-Some.ensures.steps in
    let root : root_after c.is_oom_group.result m c.loop-above.killed_root ≡ c.if-is_oom_group.killed_root = elim c.if-is_oom_group.branch [
      | then-is_oom_group w ↦ ap (λ (b : Bool). root_after b m c.loop-above.killed_root) w.if-is_oom_group.true ∙ sym w.killed_root-is
      | else-is_oom_group w ↦ ap (λ (b : Bool). root_after b m c.loop-above.killed_root) w.if-is_oom_group.false ∙ sym w.killed_root-is
    ] in
    subst (λ (h : Option ℕ). RootSoFar groups c.args.limited c.args.victim h c.next.new.self) root
    (root_on groups facts c.args.limited c.args.victim m c.loop-above.killed_root c.next.new.self t c.is_oom_group.result (sym c.is_oom_group.ensures)
    (eqb-false m c.args.limited (sym c.eq.ensures ∙ c.if-eq.false)))

pub returns-then-eq : goal.returns-then-eq
returns-then-eq c =
    let groups = c.args.tree.now in
    let facts = c.prove_groups.ensures.legal in
    let m = c.in-Some.above in
    let t = root_turn groups facts c.args.limited c.args.victim m c.loop-above.killed_root c.loop-above.above-iterator c.next.new.self c.loop-above.invariant
    c.in-Some.ensures.steps in
    let root : root_after c.is_oom_group.result m c.loop-above.killed_root ≡ c.if-is_oom_group.killed_root = elim c.if-is_oom_group.branch [
      | then-is_oom_group w ↦ ap (λ (b : Bool). root_after b m c.loop-above.killed_root) w.if-is_oom_group.true ∙ sym w.killed_root-is
      | else-is_oom_group w ↦ ap (λ (b : Bool). root_after b m c.loop-above.killed_root) w.if-is_oom_group.false ∙ sym w.killed_root-is
    ] in
    let highest : IsFlaggedAbove groups c.args.limited c.args.victim c.if-is_oom_group.killed_root =
    subst (λ (h : Option ℕ). IsFlaggedAbove groups c.args.limited c.args.victim h) root
    (root_end groups facts c.args.limited c.args.victim m c.loop-above.killed_root c.next.new.self t c.is_oom_group.result (sym c.is_oom_group.ensures)
    (eqb-true m c.args.limited (sym c.eq.ensures ∙ c.if-eq.true))) in
    record { highest = highest; below_root = never_root groups facts c.args.limited c.args.victim c.if-is_oom_group.killed_root highest }

pub returns : goal.returns
returns c =
    absurd (never_past c.args.tree.now c.prove_groups.ensures.legal c.args.limited c.args.victim c.loop-above.killed_root c.loop-above.above-iterator
    c.loop-above.invariant
    c.in-None.ensures.steps.0 c.requires)
