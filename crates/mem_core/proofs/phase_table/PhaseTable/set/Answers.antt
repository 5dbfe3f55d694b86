-- The frame leaves its old class for the new one.
use Rattle.std.proofs.Common.{◌≡◌, ℕ, ◌<◌, ◌≤◌, List, length, get_or, sym, ◌∙◌, ap, subst, arith}
use Rattle.std.specs.Prelude.{slice_set}
use Rattle.std.proofs.lemmas.List.{get_or_default, get_or-set_same}
use Rattle.step_rules.specs.declared.phase.Phase.TheVariants.{InZone}
use Rattle.mem_core.specs.Counted.{IsTally, class_in, keeper_class, moved_sizes, transit_class}
use Rattle.mem_core.proofs.Tallying.{sizes_few, sizes_some, tally_set}
use Rattle.mem_core.proofs.phase_table.PhaseTable.set.Goals as goal

pub move_one-requires-clause-some : goal.move_one-requires-clause-some
move_one-requires-clause-some c =
    let xs = c.self.inside.phases.items in
    let here : c.args.frame < length xs = let e = ap length c.self.view_is in omega (arith, e, c.requires) in
    let was : c.keeper_class-keeper.result ≡ class_in keeper_class xs c.args.frame = c.keeper_class-keeper.ensures.class
    ∙ ap keeper_class (c.index.ensures ∙ get_or_default xs c.args.frame c.index.result.now InZone here) in
    subst (λ (k : ℕ). 1 ≤ get_or c.self.inside.kept.items k 0) (sym was)
    (sizes_some (length xs) (class_in keeper_class xs) c.self.inside.kept.items c.args.frame c.self.invariant.kept here)

pub move_one-requires-clause-few : goal.move_one-requires-clause-few
move_one-requires-clause-few c = λ k.
    let xs = c.self.inside.phases.items in
    let few = sizes_few (length xs) (class_in keeper_class xs) c.self.inside.kept.items k c.self.invariant.kept in
    omega (arith, few, c.self.invariant.few, c.self.inside.phases.ok.0)

pub move_one-requires-2-clause-some : goal.move_one-requires-2-clause-some
move_one-requires-2-clause-some c =
    let xs = c.self.inside.phases.items in
    let here : c.args.frame < length xs = let e = ap length c.self.view_is in omega (arith, e, c.requires) in
    let was : c.transit_class-cpu.result ≡ class_in transit_class xs c.args.frame = c.transit_class-cpu.ensures.class
    ∙ ap transit_class (c.index-2.ensures ∙ get_or_default xs c.args.frame c.index-2.result.now InZone here) in
    subst (λ (k : ℕ). 1 ≤ get_or c.self.inside.in_transit.items k 0) (sym was)
    (sizes_some (length xs) (class_in transit_class xs) c.self.inside.in_transit.items c.args.frame c.self.invariant.in_transit here)

pub move_one-requires-2-clause-few : goal.move_one-requires-2-clause-few
move_one-requires-2-clause-few c = λ k.
    let xs = c.self.inside.phases.items in
    let few = sizes_few (length xs) (class_in transit_class xs) c.self.inside.in_transit.items k c.self.invariant.in_transit in
    omega (arith, few, c.self.invariant.few, c.self.inside.phases.ok.0)

pub invariant_of-self : goal.invariant_of-self
invariant_of-self c =
    let xs = c.self.inside.phases.items in
    let f = c.args.frame in
    let x = c.args.phase in
    let here : f < length xs = let e = ap length c.self.view_is in omega (arith, e, c.requires) in
    let kept = c.self.inside.kept.items in
    let in_transit = c.self.inside.in_transit.items in
    let keeper : c.keeper_class-keeper.result ≡ class_in keeper_class xs f = c.keeper_class-keeper.ensures.class
    ∙ ap keeper_class (c.index.ensures ∙ get_or_default xs f c.index.result.now InZone here) in
    let new_keeper : c.keeper_class-new_keeper.result ≡ keeper_class x = c.keeper_class-new_keeper.ensures.class
    ∙ ap keeper_class (c.index-3.ensures ∙ get_or-set_same xs f x c.index-3.result.now here) in
    let cpu : c.transit_class-cpu.result ≡ class_in transit_class xs f = c.transit_class-cpu.ensures.class
    ∙ ap transit_class (c.index-2.ensures ∙ get_or_default xs f c.index-2.result.now InZone here) in
    let new_cpu : c.transit_class-new_cpu.result ≡ transit_class x = c.transit_class-new_cpu.ensures.class
    ∙ ap transit_class (c.index-4.ensures ∙ get_or-set_same xs f x c.index-4.result.now here) in
    let keeper_there : keeper_class x < length kept =
    omega (arith, new_keeper, c.keeper_class-new_keeper.ensures.below, c.self.invariant.keepers, c.self.inside.kept.ok.0) in
    let cpu_there : transit_class x < length in_transit =
    omega (arith, new_cpu, c.transit_class-new_cpu.ensures.below, c.self.invariant.cpus, c.self.inside.in_transit.ok.0) in
    record {
      few = c.self.invariant.few;
      keepers = c.move_one.ensures.number ∙ c.self.invariant.keepers;
      kept =
          subst (λ (l : List ℕ). IsTally (length (slice_set xs f x)) (class_in keeper_class (slice_set xs f x)) l)
          (sym (c.move_one.ensures.sizes ∙ (λ i. moved_sizes kept (keeper i) (new_keeper i))))
          (tally_set keeper_class xs kept f x c.self.invariant.kept here keeper_there);
      cpus = c.move_one-2.ensures.number ∙ c.self.invariant.cpus;
      in_transit =
          subst (λ (l : List ℕ). IsTally (length (slice_set xs f x)) (class_in transit_class (slice_set xs f x)) l)
          (sym (c.move_one-2.ensures.sizes ∙ (λ i. moved_sizes in_transit (cpu i) (new_cpu i))))
          (tally_set transit_class xs in_transit f x c.self.invariant.in_transit here cpu_there);
    }
