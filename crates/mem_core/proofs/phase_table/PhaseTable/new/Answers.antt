-- All frames are of the first class.
use Rattle.std.proofs.Common.{◌≡◌, ℕ, ◌+◌, ◌≤◌, List, length, refl, sym, subst, arith, set, replicate}
use Rattle.group_tree.specs.Bounds.{most_groups}
use Rattle.step_rules.specs.declared.phase.Phase.{Phase}
use Rattle.step_rules.specs.declared.phase.Phase.TheVariants.{InZone}
use Rattle.mem_core.specs.Counted.{IsTally, class_in, keeper_class, transit_class}
use Rattle.mem_core.proofs.Tallying.{tally_new}
use Rattle.mem_core.proofs.phase_table.PhaseTable.new.Goals as goal

-- all frames are free, and the sizes are those of a new table
begins : (class : Phase → ℕ) (n classes : ℕ) (xs : List Phase) (sizes : List ℕ) → class InZone ≡ 0 → 1 ≤ classes → xs ≡ replicate n InZone
    → sizes ≡ set (replicate classes 0) 0 n → IsTally (length xs) (class_in class xs) sizes
begins class n classes xs sizes first some free new =
    subst (λ (l : List ℕ). IsTally (length xs) (class_in class xs) l) (sym new)
    (subst (λ (l : List Phase). IsTally (length l) (class_in class l) (set (replicate classes 0) 0 n)) (sym free)
    (tally_new class n classes first some))

pub invariant_of-result : goal.invariant_of-result
invariant_of-result c =
    let xs = c.in_ok-phases.phases.items in
    let n = c.args.frames in
    record {
      few = omega (arith, c.in_ok-phases.ensures.number, c.requires);
      keepers = c.in_ok-kept.ensures.number;
      kept = begins keeper_class n (most_groups + 1) xs c.in_ok-kept.kept.items refl (omega arith) c.in_ok-phases.ensures.items c.in_ok-kept.ensures.sizes;
      cpus = c.in_ok-in_transit.ensures.number;
      in_transit =
          begins transit_class n 67 xs c.in_ok-in_transit.in_transit.items refl (omega arith) c.in_ok-phases.ensures.items c.in_ok-in_transit.ensures.sizes;
    }
