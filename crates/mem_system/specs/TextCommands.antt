-- Commands as texts give them: what each stands for by the groups that it finds, and how it is served.
use Rattle.std.specs.Prelude.{◌≡◌, ◌≢◌, ◌⊎◌, ℕ, ◌<◌, Some, None, List}
use Rattle.group_tree.specs.declared.group.Group.{Group}
use Rattle.group_tree.specs.Groups.{number_at}
use Rattle.group_tree.specs.declared.fault.Fault.{Fault}
use Rattle.group_tree.specs.declared.fault.Fault.TheVariants.{NoGroup, NoFile}
use Rattle.control_files.specs.declared.file.File.{File}
use Rattle.control_files.specs.Files.{name_of_file}
use Rattle.boot_words.specs.Tables.{KnownTable}
use Rattle.mem_system.specs.declared.command.LockedCommand.{LockedCommand}
use Rattle.mem_system.specs.declared.command.LockedCommand.TheVariants as cmd
use Rattle.mem_system.specs.declared.outcome.Outcome.{Outcome}
use Rattle.mem_system.specs.declared.outcome.Outcome.TheVariants.{Refused}
use Rattle.mem_system.specs.declared.setting.Setting.{Setting}
use Rattle.mem_system.specs.declared.text_command.TextCommand.{TextCommand}
use Rattle.mem_system.specs.declared.text_command.TextCommand.TheVariants.{Mkdir, Rmdir, Write, Read, Settle, Owner, Touch, Dirty, Clean, Release}
use Rattle.mem_system.specs.declared.text_command.TextCommand.TheVariants.{Alloc}
use Rattle.mem_system.specs.Commands.{IsSettledAfter}
use Rattle.mem_system.specs.Outcomes.{HasItsGroups}
use Rattle.mem_system.specs.Settings.{RefusesValue, WritesSetting}
use Rattle.mem_system.specs.Visits.{IsServed, LockedState}

-- each frame that the command names has a number below `frames`
abbrev pub NamesFrameBelow : (frames : ℕ) → TextCommand → Type 0
NamesFrameBelow frames (Owner frame) = frame < frames
NamesFrameBelow frames (Touch frame) = frame < frames
NamesFrameBelow frames (Dirty frame) = frame < frames
NamesFrameBelow frames (Clean frame) = frame < frames
NamesFrameBelow frames (Release frame) = frame < frames
NamesFrameBelow frames other = Unit {0}

-- each frame that the command names is a frame of the zone
abbrev pub IsOfZone : KnownTable → TextCommand → Type 0
IsOfZone table command = NamesFrameBelow table.frames command

-- the group has this path and isn't the root, and the name is that of its file
pub record IsFileOf (groups : List Group) (path name : List ℕ) (group : ℕ) (file : File) : Type 0 where
  pub number : number_at groups path ≡ Some group
  pub below_root : group ≢ 0
  pub named : name ≡ name_of_file file

-- A group has the path. It is the root, which has no file, or no file has the name.
pub record HasNoFileNamed (groups : List Group) (path name : List ℕ) : Type 0 where
  pub group : ℕ
  pub number : number_at groups path ≡ Some group
  pub none : (group ≡ 0) ⊎ ((file : File) → name ≢ name_of_file file)

-- why there is no such file: no group has the path, or its group has no file of this name
abbrev pub HasNoFile : List Group → (path name : List ℕ) → Fault → Type 0
HasNoFile groups path name NoGroup = number_at groups path ≡ None
HasNoFile groups path name NoFile = HasNoFileNamed groups path name
HasNoFile groups path name fault = ⊥

-- no group has the path, and the command is refused for that
abbrev pub HasNoGroupAt : List Group → (path : List ℕ) → Fault → Type 0
HasNoGroupAt groups path NoGroup = number_at groups path ≡ None
HasNoGroupAt groups path fault = ⊥

-- the path and the name are those of a file, and the value writes a setting of it
pub record WritesFile (groups : List Group) (path name value : List ℕ) (group : ℕ) (setting : Setting) : Type 0 where
  pub file : File
  pub is_file : IsFileOf groups path name group file
  pub writes : WritesSetting file value setting

-- the file exists, and refuses the value
pub record RefusesValueOf (groups : List Group) (path name value : List ℕ) (fault : Fault) : Type 0 where
  pub group : ℕ
  pub file : File
  pub is_file : IsFileOf groups path name group file
  pub refuses : RefusesValue file value fault

-- what the command stands for: groups by number, files and settings by value
abbrev pub StandsFor : List Group → TextCommand → LockedCommand → Type 0
StandsFor groups (Rmdir path) (cmd.Rmdir group) = number_at groups path.now ≡ Some group
StandsFor groups (Write path file value) (cmd.Write group setting) =
    WritesFile groups path.now file.now value.now group setting
StandsFor groups (Read path name) (cmd.Read group file) = IsFileOf groups path.now name.now group file
StandsFor groups (Alloc path order) (cmd.Alloc group same) =
    (number_at groups path.now ≡ Some group) × (same ≡ order)
StandsFor groups (Mkdir path) command = command ≡ cmd.Mkdir path
StandsFor groups Settle command = command ≡ cmd.Settle
StandsFor groups (Owner frame) command = command ≡ cmd.Owner frame
StandsFor groups (Touch frame) command = command ≡ cmd.Touch frame
StandsFor groups (Dirty frame) command = command ≡ cmd.Dirty frame
StandsFor groups (Clean frame) command = command ≡ cmd.Clean frame
StandsFor groups (Release frame) command = command ≡ cmd.Release frame
StandsFor groups other command = ⊥

-- why the command stands for none: it names no group, no file, or no value that the file takes
abbrev pub StandsForNone : List Group → TextCommand → Fault → Type 0
StandsForNone groups (Rmdir path) fault = HasNoGroupAt groups path.now fault
StandsForNone groups (Write path file value) fault =
    HasNoFile groups path.now file.now fault ⊎ RefusesValueOf groups path.now file.now value.now fault
StandsForNone groups (Read path file) fault = HasNoFile groups path.now file.now fault
StandsForNone groups (Alloc path order) fault = HasNoGroupAt groups path.now fault
StandsForNone groups other fault = ⊥

-- the command stands for none, and this is why
abbrev pub RefusesByText : List Group → TextCommand → Outcome → Type 0
RefusesByText groups command (Refused fault) = StandsForNone groups command fault
RefusesByText groups command other = ⊥

-- A command given by texts was served under the lock with this outcome, by the groups that it found there. What it stands
-- for was served; or it stands for none: then it is refused, and its CPU was settled.
pub record ServesText (table : KnownTable) (command : TextCommand) (outcome : Outcome) (before after : LockedState)
    : Type 0 where
  pub served : LockedCommand
  pub given : Outcome
  pub visit : IsServed table served given before after
  pub stands : (StandsFor before.locked.machine.ledger.groups command served × (outcome ≡ given))
      ⊎ (RefusesByText before.locked.machine.ledger.groups command outcome × (served ≡ cmd.Settle))
  pub settled : IsSettledAfter served given after.cpu.part
  pub groups : HasItsGroups after.locked.machine.ledger outcome
