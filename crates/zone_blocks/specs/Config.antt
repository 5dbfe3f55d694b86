-- The sizes that a zone may be booted with.
use Rattle.std.specs.Prelude.{◌≤◌, ℕ, false}
use Rattle.group_tree.specs.Bounds.{most_groups}
use Rattle.zone_blocks.specs.declared.choices.Choices.{Choices}
use Rattle.zone_blocks.specs.declared.config.Config.{Config}

-- how many frames a zone may have
abbrev pub most_frames : ℕ
most_frames = 1048576

-- how many CPUs there may be
abbrev pub most_cpus : ℕ
most_cpus = 64

-- by how many frames a per-CPU list may be refilled or cut (Linux: `pcp->batch`)
abbrev pub most_batch : ℕ
most_batch = 64

-- at how many frames a per-CPU list may be cut (Linux: `pcp->high`)
abbrev pub most_high : ℕ
most_high = 256

-- how many pages a CPU may prepay at once (Linux: `MEMCG_CHARGE_BATCH`, 64)
abbrev pub most_stock : ℕ
most_stock = 64

-- how many pages a round of reclaim may have to want
abbrev pub most_reclaim_batch : ℕ
most_reclaim_batch = 64

-- The choices of a boot that makes none: passes of reclaim begin with the least group, groups may be killed, a round
-- wants the pages that are missing, and 64 groups may exist.
abbrev pub no_choices : Choices
no_choices = record { is_proportional = false; is_no_kill = false; reclaim_batch = 1; groups = 64 }

-- a round of reclaim has to want at least one page, and at most the greatest number; there is room for the root, and at
-- most for the greatest number of groups
pub record AreValidChoices (choices : Choices) : Type 0 where
  pub reclaim_batch_low : 1 ≤ choices.reclaim_batch
  pub reclaim_batch_high : choices.reclaim_batch ≤ most_reclaim_batch
  pub groups_low : 1 ≤ choices.groups
  pub groups_high : choices.groups ≤ most_groups

-- every size and every choice is in its range, and `high` is at least `batch`
pub record IsValidConfig (c : Config) : Type 0 where
  pub frames_low : 1 ≤ c.frames
  pub frames_high : c.frames ≤ most_frames
  pub cpus_low : 1 ≤ c.cpus
  pub cpus_high : c.cpus ≤ most_cpus
  pub batch_low : 1 ≤ c.batch
  pub batch_high : c.batch ≤ most_batch
  pub high_low : c.batch ≤ c.high
  pub high_high : c.high ≤ most_high
  pub stock_low : 1 ≤ c.stock
  pub stock_high : c.stock ≤ most_stock
  pub choices : AreValidChoices c.choices
