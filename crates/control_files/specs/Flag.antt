-- The text of a flag (cgroup-v2.rst, memory.oom.group): `0` or `1`, with white space before and after.
use Rattle.std.specs.Prelude.{◌≡◌, Bool, true, false, ℕ, List, ◌++◌, codes, Result, Ok, Err}
use Rattle.group_tree.specs.declared.fault.Fault.{Fault}
use Rattle.group_tree.specs.declared.fault.Fault.TheVariants.{BadLimit}
use Rattle.control_files.specs.Limit.{AreSpaces}

-- the word for a flag
abbrev pub flag_word : Bool → List ℕ
flag_word false = codes "0"
flag_word true = codes "1"

-- the text is the word for this flag, between white space
pub record IsFlagText (text : List ℕ) (flag : Bool) : Type 0 where
  pub before : List ℕ
  pub after : List ℕ
  pub parts : text ≡ before ++ (flag_word flag ++ after)
  pub spaces_before : AreSpaces before
  pub spaces_after : AreSpaces after

-- the text is that of no flag
abbrev pub IsNoFlagText : List ℕ → Type 0
IsNoFlagText text = (flag : Bool) → ¬ IsFlagText text flag

-- the flag that the text writes, or a refusal of a text that writes none
abbrev pub IsFlagReading : List ℕ → Result Bool Fault → Type 0
IsFlagReading text (Ok flag) = IsFlagText text flag
IsFlagReading text (Err BadLimit) = IsNoFlagText text
IsFlagReading text (Err _) = ⊥
