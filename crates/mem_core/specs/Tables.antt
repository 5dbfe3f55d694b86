-- What the tables of phases and of references keep beside their lists.
use Rattle.std.specs.Prelude.{◌+◌, ◌≡◌, ℕ, ◌≤◌, List, length, vec_len}
use Rattle.std.specs.List.{slice_index_or}
use Rattle.group_tree.specs.Bounds.{most_groups}
use Rattle.zone_blocks.specs.Config.{most_frames}
use Rattle.step_rules.specs.State.{sum_to}
use Rattle.mem_core.specs.declared.phase_table.PhaseTable.TheInside as phases
use Rattle.mem_core.specs.declared.reference_counts.ReferenceCounts.TheInside as references
use Rattle.mem_core.specs.Counted.{IsTally, class_in, keeper_class, transit_class}

-- the classes of a table of phases have their sizes
pub record AreCounted (t : phases.Inside) : Type 0 where
  pub few : vec_len t.phases ≤ most_frames
  pub keepers : vec_len t.kept ≡ most_groups + 1
  pub kept : IsTally (length t.phases.items) (class_in keeper_class t.phases.items) t.kept.items
  pub cpus : vec_len t.in_transit ≡ 67
  pub in_transit : IsTally (length t.phases.items) (class_in transit_class t.phases.items) t.in_transit.items

-- the sum of a list of numbers
abbrev pub sum_of : List ℕ → ℕ
sum_of counts = sum_to (length counts) (λ f. slice_index_or counts f 0)

-- a seat's references are as many as the sum says, and at most 255 on a frame
pub record AreSummed (t : references.Inside) : Type 0 where
  pub few : vec_len t.counts ≤ most_frames
  pub each : (f : ℕ) → slice_index_or t.counts.items f 0 ≤ 255
  pub sum : t.sum ≡ sum_of t.counts.items
