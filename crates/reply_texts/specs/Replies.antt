-- What is written for what was served under the lock.
use Rattle.std.specs.Prelude.{ℕ, List, ◌++◌, codes}
use Rattle.std.specs.Fmt.{decimal}
use Rattle.group_tree.specs.declared.fault.Fault.{Fault}
use Rattle.group_tree.specs.declared.fault.Fault.TheVariants as fault
use Rattle.group_tree.specs.Faults.{name_of, number_of}
use Rattle.group_charge.specs.Charges.{Ledger}
use Rattle.control_files.specs.Stat.{stat_text}
use Rattle.machine_texts.specs.Characters.{characters}
use Rattle.mem_system.specs.Outcomes.{shown_path, shown_text}
use Rattle.mem_system.specs.declared.outcome.Outcome.{Outcome}
use Rattle.mem_system.specs.declared.outcome.Outcome.TheVariants.{Group, Frame, Done, Text, Stat, Free, Lent, Charged, Marked, Active, Left, Returned}
use Rattle.mem_system.specs.declared.outcome.Outcome.TheVariants.{OverLimit, Refused}

-- the words of a refusal: its number and its name
abbrev pub refusal_words : Fault → List ℕ
refusal_words reason = codes "refused " ++ decimal (number_of reason) ++ codes " " ++ name_of reason

-- the line of a refusal
abbrev pub refusal_text : Fault → List ℕ
refusal_text reason = refusal_words reason ++ codes "\n"

-- the line of a charge over the limit of this group, which has this path
abbrev pub over_limit_text : (group : ℕ) (path : List ℕ) → List ℕ
over_limit_text group path = refusal_words (fault.OverLimit group) ++ codes " " ++ characters path ++ codes "\n"

-- the line of a path
abbrev pub path_text : List ℕ → List ℕ
path_text path = characters path ++ codes "\n"

-- what is written for an outcome, with paths and texts of files by the charges
abbrev pub outcome_text : Ledger → Outcome → List ℕ
outcome_text ledger (Group group) = codes "group " ++ decimal group ++ codes "\n"
outcome_text ledger (Frame frame) = codes "frame " ++ decimal frame ++ codes "\n"
outcome_text ledger Done = codes "ok\n"
outcome_text ledger (Text group file) = characters (shown_text ledger group file)
outcome_text ledger (Stat stat) = characters (stat_text stat)
outcome_text ledger Free = codes "free\n"
outcome_text ledger (Lent cpu) = codes "cpu " ++ decimal cpu ++ codes "\n"
outcome_text ledger (Charged group) = path_text (shown_path ledger group)
outcome_text ledger Marked = codes "marked\n"
outcome_text ledger Active = codes "active\n"
outcome_text ledger (Left references) = codes "left " ++ decimal references ++ codes "\n"
outcome_text ledger Returned = codes "returned\n"
outcome_text ledger (OverLimit group) = over_limit_text group (shown_path ledger group)
outcome_text ledger (Refused reason) = refusal_text reason
