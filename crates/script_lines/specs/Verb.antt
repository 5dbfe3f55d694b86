-- The commands of a script: their names, and what follows each.
use Rattle.std.specs.Prelude.{◌≡◌, ℕ, ◌^◌, ◌<◌, Bool, List, [], ◌∷◌, ◌++◌, All, Option, codes, length, map, nat_eq}
use Rattle.std.specs.HashMap.{HashMap, get_by}
use Rattle.std.specs.Map.{lookup}
use Rattle.std.specs.Str.Parse.{IsNumeral, digits_value}
use Rattle.group_tree.specs.Bounds.{most_groups}
use Rattle.zone_blocks.specs.declared.config.Config.{Config}
use Rattle.script_lines.specs.Names.{code_of}
use Rattle.script_lines.specs.declared.line.Command.{Command}
use Rattle.script_lines.specs.declared.line.Command.TheVariants as command
use Rattle.script_lines.specs.declared.line.FrameAct.{FrameAct}
use Rattle.script_lines.specs.declared.line.FrameAct.TheVariants.{Touch, Dirty, Clean, Owner}
use Rattle.script_lines.specs.declared.verb.ArgumentForm.{ArgumentForm}
use Rattle.script_lines.specs.declared.verb.ArgumentForm.TheVariants as form
use Rattle.script_lines.specs.declared.verb.Name.{Name}
use Rattle.script_lines.specs.declared.verb.Verb.{Verb}
use Rattle.script_lines.specs.declared.verb.Verb.TheVariants.{Mkdir, Rmdir, Write, Read, Alloc, Fast, Release, Get, Put}
use Rattle.script_lines.specs.declared.verb.Verb.TheVariants.{Settle, OnFrame, Blocks, Show, Stock, Units}

-- ---- names

-- all commands
abbrev pub all_verbs : List Verb
all_verbs =
    Mkdir ∷ Rmdir ∷ Write ∷ Read ∷ Alloc ∷ Fast ∷ Release ∷ Get ∷ Put ∷ Settle
    ∷ OnFrame Touch ∷ OnFrame Dirty ∷ OnFrame Clean ∷ OnFrame Owner ∷ Blocks ∷ Show ∷ Stock ∷ Units ∷ []

-- the name of a command, as a script writes it, and what follows it
pub record VerbRow : Type 0 where
  pub name : List ℕ
  pub form : ArgumentForm

-- the name of an act on a frame
abbrev pub act_name : FrameAct → List ℕ
act_name Touch = codes "touch"
act_name Dirty = codes "dirty"
act_name Clean = codes "clean"
act_name Owner = codes "owner"

-- the table of commands
abbrev pub row_of_verb : Verb → VerbRow
row_of_verb Mkdir = record { name = codes "mkdir"; form = form.Path }
row_of_verb Rmdir = record { name = codes "rmdir"; form = form.Path }
row_of_verb Write = record { name = codes "write"; form = form.PathFileValue }
row_of_verb Read = record { name = codes "read"; form = form.PathFile }
row_of_verb Alloc = record { name = codes "alloc"; form = form.PathOrder }
row_of_verb Fast = record { name = codes "fast"; form = form.Group }
row_of_verb Release = record { name = codes "release"; form = form.Frame }
row_of_verb Get = record { name = codes "get"; form = form.Frame }
row_of_verb Put = record { name = codes "put"; form = form.Frame }
row_of_verb Settle = record { name = codes "settle"; form = form.Alone }
row_of_verb (OnFrame act) = record { name = act_name act; form = form.Frame }
row_of_verb Blocks = record { name = codes "blocks"; form = form.Alone }
row_of_verb Show = record { name = codes "show"; form = form.Alone }
row_of_verb Stock = record { name = codes "stock"; form = form.Alone }
row_of_verb Units = record { name = codes "units"; form = form.Path }

-- the name of a command
abbrev pub name_of_verb : Verb → List ℕ
name_of_verb verb = (row_of_verb verb).name

-- what follows the name of a command
abbrev pub form_of_verb : Verb → ArgumentForm
form_of_verb verb = (row_of_verb verb).form

-- ---- what follows a name

-- a path or a file name: some bytes above 32 and below 127
pub record IsPathText (text : List ℕ) : Type 0 where
  pub some : 0 < length text
  pub graphic : All (λ b. (32 < b) × (b < 127)) text

-- decimal digits, leading zeros allowed, that write a number of 32 bits
pub record WritesNumber (text : List ℕ) (n : ℕ) : Type 0 where
  pub digits : IsNumeral 10 text
  pub value : digits_value 10 text ≡ n
  pub fits : n < 2 ^ 32

-- `PATH ORDER`
pub record IsAllocText (path : List ℕ) (order : ℕ) (text : List ℕ) : Type 0 where
  pub digits : List ℕ
  pub parts : text ≡ path ++ 32 ∷ digits
  pub path_text : IsPathText path
  pub writes : WritesNumber digits order

-- `PATH FILE`
pub record IsReadText (path file text : List ℕ) : Type 0 where
  pub parts : text ≡ path ++ 32 ∷ file
  pub path_text : IsPathText path
  pub file_text : IsPathText file

-- `PATH FILE VALUE`; the value is all that follows the space after the file's name, so it may have spaces or be empty
pub record IsWriteText (path file value text : List ℕ) : Type 0 where
  pub parts : text ≡ path ++ 32 ∷ (file ++ 32 ∷ value)
  pub path_text : IsPathText path
  pub file_text : IsPathText file

-- the number of a frame of the zone
pub record IsFrameText (sizes : Config) (frame : ℕ) (text : List ℕ) : Type 0 where
  pub writes : WritesNumber text frame
  pub in_zone : frame < sizes.frames

-- a number that a group of the zone can have; the group needn't exist
pub record IsGroupText (sizes : Config) (group : ℕ) (text : List ℕ) : Type 0 where
  pub writes : WritesNumber text group
  pub possible : group < most_groups
  pub low : group < sizes.choices.groups

-- `PATH` alone
abbrev pub IsPath : List ℕ → List ℕ → Type 0
IsPath path text = IsPathText path × (path ≡ text)

-- what follows the name of a command, in words and numbers
pub data Arguments : Type 0 where
  Alone : Arguments
  Path : List ℕ → Arguments
  PathFile : List ℕ → List ℕ → Arguments
  PathFileValue : List ℕ → List ℕ → List ℕ → Arguments
  PathOrder : List ℕ → ℕ → Arguments
  Group : ℕ → Arguments
  Frame : ℕ → Arguments

-- the text says this; nothing may follow a name that stands alone
abbrev pub IsArguments : Config → Arguments → List ℕ → Type 0
IsArguments sizes Alone text = ⊥
IsArguments sizes (Path path) text = IsPath path text
IsArguments sizes (PathFile path file) text = IsReadText path file text
IsArguments sizes (PathFileValue path file value) text = IsWriteText path file value text
IsArguments sizes (PathOrder path order) text = IsAllocText path order text
IsArguments sizes (Group group) text = IsGroupText sizes group text
IsArguments sizes (Frame frame) text = IsFrameText sizes frame text

-- the text is this name, a space and these arguments; or the name alone
abbrev pub IsNameWith : Config → List ℕ → Arguments → List ℕ → Type 0
IsNameWith sizes name Alone text = text ≡ name
IsNameWith sizes name arguments text = (rest : List ℕ) × (text ≡ name ++ 32 ∷ rest) × IsArguments sizes arguments rest

-- ---- commands

-- a command's name, and what follows it
abbrev pub words_of_command : Command → Verb × Arguments
words_of_command (command.Mkdir path) = (Mkdir, Path path.now)
words_of_command (command.Rmdir path) = (Rmdir, Path path.now)
words_of_command (command.Write path file value) = (Write, PathFileValue path.now file.now value.now)
words_of_command (command.Read path file) = (Read, PathFile path.now file.now)
words_of_command (command.Alloc path order) = (Alloc, PathOrder path.now order)
words_of_command (command.Fast group) = (Fast, Group group)
words_of_command (command.Release frame) = (Release, Frame frame)
words_of_command (command.Get frame) = (Get, Frame frame)
words_of_command (command.Put frame) = (Put, Frame frame)
words_of_command command.Settle = (Settle, Alone)
words_of_command (command.OnFrame act frame) = (OnFrame act, Frame frame)
words_of_command command.Blocks = (Blocks, Alone)
words_of_command command.Show = (Show, Alone)
words_of_command command.Stock = (Stock, Alone)
words_of_command (command.Units path) = (Units, Path path.now)

-- which command it is
abbrev pub its_verb : Command → Verb
its_verb command = (words_of_command command).0

-- what follows the name of a command and a space
abbrev pub HasArguments : Config → Command → List ℕ → Type 0
HasArguments sizes command text = IsArguments sizes (words_of_command command).1 text

-- the name of a command, a space and its arguments; or the name alone
abbrev pub IsCommandText : Config → Command → List ℕ → Type 0
IsCommandText sizes command text = IsNameWith sizes (name_of_verb (its_verb command)) (words_of_command command).1 text

-- ---- the table

-- two names are one
abbrev pub same_name : Name → Name → Bool
same_name one other = nat_eq one.code other.code

-- a command under its name
abbrev pub by_name : Verb → Name × Verb
by_name verb = (record { code = code_of (name_of_verb verb) }, verb)

-- the command whose name has this number
abbrev pub verb_coded : ℕ → Option Verb
verb_coded code = lookup (λ (name : Name). nat_eq code name.code) (map by_name all_verbs)

-- the table has each command under the number of its name, and no other number
abbrev pub IsNames : {S : Type 0} → HashMap Name Verb S → Type 0
IsNames names = (code : ℕ) → get_by (λ key. nat_eq code key.code) names ≡ verb_coded code
