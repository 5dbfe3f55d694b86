-- The settings of a group that can be written, and the texts that write them.
use Rattle.std.specs.Prelude.{◌≡◌, ℕ, false, List}
use Rattle.group_tree.specs.declared.fault.Fault.{Fault}
use Rattle.group_tree.specs.declared.fault.Fault.TheVariants.{ReadOnly, BadLimit, BadNumber}
use Rattle.control_files.specs.declared.file.File.{File}
use Rattle.control_files.specs.declared.file.File.TheVariants.{Max, High, Low, Min, OomGroup, Reclaim}
use Rattle.control_files.specs.{is_writable, IsFlagText, IsNoFlagText, ReadsAmount, ReadsAs, IsTooGreat, IsNoAmountText}
use Rattle.control_files.specs.{IsNoLimitText}
use Rattle.mem_system.specs.declared.setting.Setting.{Setting}
use Rattle.mem_system.specs.declared.setting.Setting.TheVariants as setting

-- the value, written to the file, is the text of this setting
abbrev pub WritesSetting : File → (value : List ℕ) → Setting → Type 0
WritesSetting file value (setting.Max limit) = (file ≡ Max) × ReadsAs value limit
WritesSetting file value (setting.High limit) = (file ≡ High) × ReadsAs value limit
WritesSetting file value (setting.Low limit) = (file ≡ Low) × ReadsAs value limit
WritesSetting file value (setting.Min limit) = (file ≡ Min) × ReadsAs value limit
WritesSetting file value (setting.OomGroup flag) = (file ≡ OomGroup) × IsFlagText value flag
WritesSetting file value (setting.Reclaim pages) = (file ≡ Reclaim) × ReadsAmount value pages

-- why an existing file refuses a value: the file is read-only, or the value is malformed or too great for it
abbrev pub RefusesValue : File → (value : List ℕ) → Fault → Type 0
RefusesValue file value ReadOnly = is_writable file ≡ false
RefusesValue Max value BadLimit = IsNoLimitText value
RefusesValue Max value BadNumber = IsTooGreat value
RefusesValue High value BadLimit = IsNoLimitText value
RefusesValue High value BadNumber = IsTooGreat value
RefusesValue Low value BadLimit = IsNoLimitText value
RefusesValue Low value BadNumber = IsTooGreat value
RefusesValue Min value BadLimit = IsNoLimitText value
RefusesValue Min value BadNumber = IsTooGreat value
RefusesValue OomGroup value BadLimit = IsNoFlagText value
RefusesValue Reclaim value BadLimit = IsNoAmountText value
RefusesValue Reclaim value BadNumber = IsTooGreat value
RefusesValue file value fault = ⊥
