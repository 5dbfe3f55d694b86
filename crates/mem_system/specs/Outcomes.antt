-- What an outcome shows, by the charges while the lock is held.
use Rattle.std.specs.Prelude.{◌≡◌, ◌≢◌, ℕ, IsOk, IsTrue, Option, Some, None, Result, Ok, Err, List, []}
use Rattle.group_tree.specs.Groups.{has_group, path_of}
use Rattle.group_tree.specs.declared.fault.Fault.{Fault}
use Rattle.group_charge.specs.Charges.{Ledger}
use Rattle.control_files.specs.declared.file.File.{File}
use Rattle.control_files.specs.Files.{file_text}
use Rattle.control_files.specs.Stat.{stat_text}
use Rattle.mem_system.specs.declared.outcome.Outcome.{Outcome}
use Rattle.mem_system.specs.declared.outcome.Outcome.TheVariants as outcome

-- the path, or an empty one if there is none
abbrev pub path_or_empty : Option (List ℕ) → List ℕ
path_or_empty (Some path) = path
path_or_empty None = []

-- the text, or an empty one if there is none
abbrev pub text_or_empty : Result (List ℕ) Fault → List ℕ
text_or_empty (Ok text) = text
text_or_empty (Err fault) = []

-- the path of the group that an outcome shows
abbrev pub shown_path : Ledger → (group : ℕ) → List ℕ
shown_path ledger group = path_or_empty (path_of ledger.groups group)

-- the text of the file that an outcome shows
abbrev pub shown_text : Ledger → (group : ℕ) → File → List ℕ
shown_text ledger group file = text_or_empty (file_text ledger group file)

-- this is the text of a file that the outcome shows
abbrev pub IsShownText : Ledger → Outcome → List ℕ → Type 0
IsShownText ledger (outcome.Text group file) text = text ≡ shown_text ledger group file
IsShownText ledger (outcome.Stat stat) text = text ≡ stat_text stat
IsShownText ledger other text = ⊥

-- the group whose path or file the outcome shows exists, and its file has a text
abbrev pub HasItsGroups : Ledger → Outcome → Type 0
HasItsGroups ledger (outcome.Text group file) =
    IsTrue (has_group ledger.groups group) × (group ≢ 0) × IsOk (file_text ledger group file)
HasItsGroups ledger (outcome.Charged group) = IsTrue (has_group ledger.groups group)
HasItsGroups ledger (outcome.OverLimit group) = IsTrue (has_group ledger.groups group)
HasItsGroups ledger other = Unit {0}
