-- The sizes that the command line may ask for.
use Rattle.std.specs.Prelude.{◌≤◌}
use Rattle.zone_blocks.specs.declared.config.Config.{Config}
use Rattle.zone_blocks.specs.Config.{AreValidChoices, most_batch, most_cpus, most_frames, most_high, most_stock}

-- each size is in the range of its own option
pub record HasSizesInRange (sizes : Config) : Type 0 where
  pub frames_low : 1 ≤ sizes.frames
  pub frames_high : sizes.frames ≤ most_frames
  pub cpus_low : 1 ≤ sizes.cpus
  pub cpus_high : sizes.cpus ≤ most_cpus
  pub batch_low : 1 ≤ sizes.batch
  pub batch_high : sizes.batch ≤ most_batch
  pub high_low : 1 ≤ sizes.high
  pub high_high : sizes.high ≤ most_high
  pub stock_low : 1 ≤ sizes.stock
  pub stock_high : sizes.stock ≤ most_stock
  pub choices : AreValidChoices sizes.choices
