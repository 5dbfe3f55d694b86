-- The sizes that a host passes.
use Rattle.std.specs.Prelude.{◌≡◌, ◌==◌, ◌||◌, Bool, true, if◌then◌else◌, max, nat_lt, not}
use Rattle.zone_blocks.specs.declared.choices.Choices.{Choices}
use Rattle.zone_blocks.specs.declared.config.Config.{Config}
use Rattle.zone_blocks.specs.Config.{IsValidConfig, no_choices}
use Rattle.host_memory.specs.declared.sizes.Sizes.{Sizes}

-- the choices among the sizes that a host passes; 0 is that of a boot that makes none
abbrev pub choices_of : Sizes → Choices
choices_of sizes = record {
  is_proportional = not (sizes.proportional == 0);
  is_no_kill = not (sizes.no_kill == 0);
  reclaim_batch = max sizes.reclaim_batch 1;
  groups = if sizes.groups == 0 then no_choices.groups else sizes.groups;
}

-- each flag is 0 or 1
abbrev pub has_flags : Sizes → Bool
has_flags sizes = not (nat_lt 1 sizes.no_kill || nat_lt 1 sizes.proportional)

-- the sizes that a host passes, as those of a boot
abbrev pub config_of : Sizes → Config
config_of sizes = record {
  frames = sizes.frames;
  cpus = sizes.cpus;
  batch = sizes.batch;
  high = sizes.high;
  stock = sizes.stock;
  choices = choices_of sizes;
}

-- a zone can be booted with what a host passes: each flag is 0 or 1, and each size is in its range
pub record AreSizes (sizes : Sizes) : Type 0 where
  pub flags : has_flags sizes ≡ true
  pub valid : IsValidConfig (config_of sizes)
