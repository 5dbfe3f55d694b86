-- The files of a group: their names and their texts (cgroup-v2.rst, "Memory Interface Files").
use Rattle.std.specs.Prelude.{ℕ, ◌*◌, Bool, true, false, Option, Some, None, Result, Ok, Err, List, ◌++◌, codes}
use Rattle.std.specs.Fmt.{decimal}
use Rattle.std.specs.List.{flat_map}
use Rattle.group_tree.specs.{EventCounts, all_keys, count_of, key_name, is_oom_group, limit_of}
use Rattle.group_tree.specs.declared.fault.Fault.{Fault}
use Rattle.group_tree.specs.declared.fault.Fault.TheVariants.{NoFile, WriteOnly}
use Rattle.group_charge.specs.Charges.{Ledger, current_of, peak_of, events_of, events_local_of, settings_of}
use Rattle.control_files.specs.Flag.{flag_word}
use Rattle.control_files.specs.Limit.{page_bytes}
use Rattle.control_files.specs.declared.file.File.{File}
use Rattle.control_files.specs.declared.file.File.TheVariants.{Current, Max, High, Low, Min, Peak, Events, EventsLocal, OomGroup, Reclaim, Stat}

-- the bytes of a file's name, and whether it can be read and written
pub record Row : Type 0 where
  pub name : List ℕ
  pub is_readable : Bool
  pub is_writable : Bool

-- the table of files
abbrev pub row_of : File → Row
row_of Current = record { name = codes "memory.current"; is_readable = true; is_writable = false }
row_of Max = record { name = codes "memory.max"; is_readable = true; is_writable = true }
row_of High = record { name = codes "memory.high"; is_readable = true; is_writable = true }
row_of Low = record { name = codes "memory.low"; is_readable = true; is_writable = true }
row_of Min = record { name = codes "memory.min"; is_readable = true; is_writable = true }
row_of Peak = record { name = codes "memory.peak"; is_readable = true; is_writable = false }
row_of Events = record { name = codes "memory.events"; is_readable = true; is_writable = false }
row_of EventsLocal = record { name = codes "memory.events.local"; is_readable = true; is_writable = false }
row_of OomGroup = record { name = codes "memory.oom.group"; is_readable = true; is_writable = true }
row_of Reclaim = record { name = codes "memory.reclaim"; is_readable = false; is_writable = true }
row_of Stat = record { name = codes "memory.stat"; is_readable = true; is_writable = false }

-- the bytes of a file's name
abbrev pub name_of_file : File → List ℕ
name_of_file file = (row_of file).name

-- the file can be read
abbrev pub is_readable : File → Bool
is_readable file = (row_of file).is_readable

-- the file can be written
abbrev pub is_writable : File → Bool
is_writable file = (row_of file).is_writable

-- the bytes of this many pages, each of `page_bytes`, on a line of their own
abbrev pub pages_text : ℕ → List ℕ
pages_text pages = decimal (pages * page_bytes) ++ codes "\n"

-- a limit in bytes, given in pages, or `max` for none
abbrev pub limit_text : Option ℕ → List ℕ
limit_text None = codes "max\n"
limit_text (Some pages) = pages_text pages

-- a flag, on a line of its own
abbrev pub flag_text : Bool → List ℕ
flag_text flag = flag_word flag ++ codes "\n"

-- a line of a key and its count
abbrev pub count_line : List ℕ → ℕ → List ℕ
count_line key count = key ++ (codes " " ++ (decimal count ++ codes "\n"))

-- a line for each key
unfoldable pub events_text : EventCounts → List ℕ
events_text counts = flat_map (λ key. count_line (key_name key) (count_of counts key)) all_keys

-- the text of a file of a group, or why it can't be read; the ledger has no text for memory.stat
abbrev pub file_text : Ledger → ℕ → File → Result (List ℕ) Fault
file_text ledger g Current = Ok (pages_text (current_of ledger g))
file_text ledger g Max = Ok (limit_text (limit_of ledger.groups g))
file_text ledger g High = Ok (limit_text (settings_of ledger g).high)
file_text ledger g Low = Ok (limit_text (settings_of ledger g).low)
file_text ledger g Min = Ok (limit_text (settings_of ledger g).min)
file_text ledger g Peak = Ok (pages_text (peak_of ledger g))
file_text ledger g Events = Ok (events_text (events_of ledger g))
file_text ledger g EventsLocal = Ok (events_text (events_local_of ledger g))
file_text ledger g OomGroup = Ok (flag_text (is_oom_group ledger.groups g))
file_text ledger g Reclaim = Err WriteOnly
file_text ledger g Stat = Err NoFile
