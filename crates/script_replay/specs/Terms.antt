-- The terms of a replay.
use Rattle.std.specs.Prelude.{Bool, false}
use Rattle.zone_blocks.specs.declared.config.Config.{Config}
use Rattle.boot_words.specs.Tables.{KnownTable}
use Rattle.mem_system.specs.Boots.{KnownSystem}
use Rattle.script_replay.specs.declared.form.Form.{Form}

-- what CPUs share of a boot of these sizes, with this table
abbrev pub known_system : KnownTable → Config → KnownSystem
known_system table sizes = record { table = table; sizes = sizes }

-- the terms of a replay: the table of its boot, whether answers are explained, and whether each line of an answer
-- begins with the number of its script line
pub record Terms : Type 0 where
  pub table : KnownTable
  pub is_explained : Bool
  pub is_numbered : Bool

-- the terms with this table and these choices
abbrev pub numbered_terms : KnownTable → (is_explained is_numbered : Bool) → Terms
numbered_terms table is_explained is_numbered = record {
  table = table;
  is_explained = is_explained;
  is_numbered = is_numbered;
}

-- the terms without numbers
abbrev pub terms : KnownTable → (is_explained : Bool) → Terms
terms table is_explained = numbered_terms table is_explained false

-- the form with these choices
abbrev pub form_of : (is_explained is_numbered : Bool) → Form
form_of is_explained is_numbered = record { is_explained = is_explained; is_numbered = is_numbered }

-- the terms of this form of answers
abbrev pub form_terms : KnownTable → Form → Terms
form_terms table form = numbered_terms table form.is_explained form.is_numbered
