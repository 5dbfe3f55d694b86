-- Why a command is refused, whatever groups there are and whatever they use.
use Rattle.std.specs.Prelude.{◌≡◌, ◌≢◌, ◌⊎◌, ℕ, ◌<◌, ◌≤◌, Bool, true, false, Option, None, Some, List, ◌||◌, codes, length, nat_eq}
use Rattle.std.specs.List.{starts_with}
use Rattle.std.specs.Str.{bytes_eq}
use Rattle.zone_blocks.specs.declared.config.Config.{Config}
use Rattle.control_files.specs.{is_readable, is_writable, name_of_file, IsNoFlagText, IsNoAmountText, IsNoLimitText, IsTooGreat}
use Rattle.control_files.specs.declared.file.File.{File}
use Rattle.control_files.specs.declared.file.File.TheVariants.{Max, High, Low, Min, OomGroup, Reclaim}
use Rattle.group_tree.specs.{most_names, depth_of, is_root, is_well_formed}
use Rattle.script_lines.specs.Script.{IsRequestText, longest_line}
use Rattle.script_lines.specs.declared.line.Command.{Command}
use Rattle.script_lines.specs.declared.line.Command.TheVariants.{Mkdir, Rmdir, Read, Write, Alloc, Units}
use Rattle.script_lint.specs.Doubts.{IsDoubtful}
use Rattle.script_lint.specs.Pasts.{IsMissing}
use Rattle.script_lint.specs.declared.refusal.Refusal.{Refusal}
use Rattle.script_lint.specs.declared.refusal.Refusal.TheVariants.{OrderTooGreat, NotModelled, NoFile, FileOfRoot, WriteOnly, BadPath, PathTooDeep}
use Rattle.script_lint.specs.declared.refusal.Refusal.TheVariants.{RootToChange, ReadOnly, NoLimit, NoAmount, NoFlag, TooGreat}

-- what only shows how memory is used
abbrev pub is_statistic : List ℕ → Bool
is_statistic name =
    bytes_eq name (codes "memory.numa_stat") || bytes_eq name (codes "memory.pressure")

-- a name as that of a file about swap
abbrev pub is_of_swap : List ℕ → Bool
is_of_swap name = starts_with nat_eq name (codes "memory.swap.") || starts_with nat_eq name (codes "memory.zswap.")

-- cgroup v2 has a file of this name, and no group has it here
abbrev pub is_unmodelled : List ℕ → Bool
is_unmodelled name = is_statistic name || is_of_swap name

-- no group has a file of this name
abbrev pub IsNoFileName : List ℕ → Type 0
IsNoFileName name = (file : File) → name ≢ name_of_file file

-- why there is no such file: no group has one of this name, or the path is the root's, which has no files
abbrev pub LacksFile : (path name : List ℕ) → Refusal → Type 0
LacksFile path name NotModelled = IsNoFileName name × (is_unmodelled name ≡ true)
LacksFile path name NoFile = IsNoFileName name × (is_unmodelled name ≡ false)
LacksFile path name FileOfRoot = path ≡ codes "/"
LacksFile path name other = ⊥

-- the file of this name is the only one, and a group that has the path has it
pub record HasFile (path name : List ℕ) (file : File) : Type 0 where
  pub named : name ≡ name_of_file file
  pub only : (other : File) → name ≡ name_of_file other → other ≡ file
  pub there : (why : Refusal) → ¬ LacksFile path name why

-- why a file that takes a limit doesn't take this value
abbrev pub LacksLimit : (value : List ℕ) → Refusal → Type 0
LacksLimit value NoLimit = IsNoLimitText value
LacksLimit value TooGreat = IsTooGreat value
LacksLimit value other = ⊥

-- why memory.reclaim doesn't
abbrev pub LacksAmount : (value : List ℕ) → Refusal → Type 0
LacksAmount value NoAmount = IsNoAmountText value
LacksAmount value TooGreat = IsTooGreat value
LacksAmount value other = ⊥

-- why memory.oom.group doesn't
abbrev pub LacksFlag : (value : List ℕ) → Refusal → Type 0
LacksFlag value NoFlag = IsNoFlagText value
LacksFlag value other = ⊥

-- why the file can't be written at all
abbrev pub CantWrite : File → Refusal → Type 0
CantWrite file ReadOnly = is_writable file ≡ false
CantWrite file other = ⊥

-- the file doesn't take this value, or none
abbrev pub NeverTakesValue : File → (value : List ℕ) → Refusal → Type 0
NeverTakesValue Max value why = LacksLimit value why
NeverTakesValue High value why = LacksLimit value why
NeverTakesValue Low value why = LacksLimit value why
NeverTakesValue Min value why = LacksLimit value why
NeverTakesValue Reclaim value why = LacksAmount value why
NeverTakesValue OomGroup value why = LacksFlag value why
NeverTakesValue read_only value why = CantWrite read_only why

-- the file can't be read
abbrev pub RefusesRead : File → Refusal → Type 0
RefusesRead file WriteOnly = is_readable file ≡ false
RefusesRead file other = ⊥

-- a file of this name does this
abbrev pub OfFile : List ℕ → (File → Type 0) → Type 0
OfFile name Does = (file : File) × (name ≡ name_of_file file) × Does file

-- why the file of the path can't be read
abbrev pub RefusesReadOf : (path name : List ℕ) → Refusal → Type 0
RefusesReadOf path name why = LacksFile path name why ⊎ OfFile name (λ file. RefusesRead file why)

-- why the value can't be written to the file of the path
abbrev pub RefusesWriteOf : (path name value : List ℕ) → Refusal → Type 0
RefusesWriteOf path name value why = LacksFile path name why ⊎ OfFile name (λ file. NeverTakesValue file value why)

-- the order is above that of the greatest blocks
abbrev pub RefusesOrder : ℕ → Refusal → Type 0
RefusesOrder order OrderTooGreat = 10 < order
RefusesOrder order other = ⊥

-- why no group has this path, in every tree
abbrev pub IsNoPath : List ℕ → Refusal → Type 0
IsNoPath path BadPath = is_well_formed path ≡ false
IsNoPath path PathTooDeep = (is_well_formed path ≡ true) × (most_names < depth_of path)
IsNoPath path other = ⊥

-- why no group of this path can be made or removed, in every tree
abbrev pub CantChange : List ℕ → Refusal → Type 0
CantChange path RootToChange = is_root path ≡ true
CantChange path why = IsNoPath path why

-- why the command is refused, in every state
abbrev pub IsRefused : Command → Refusal → Type 0
IsRefused (Mkdir path) why = CantChange path.now why
IsRefused (Rmdir path) why = CantChange path.now why
IsRefused (Units path) why = IsNoPath path.now why
IsRefused (Alloc path order) why = RefusesOrder order why ⊎ IsNoPath path.now why
IsRefused (Read path file) why = RefusesReadOf path.now file.now why ⊎ IsNoPath path.now why
IsRefused (Write path file value) why = RefusesWriteOf path.now file.now value.now why ⊎ IsNoPath path.now why
IsRefused other why = ⊥

-- one of these reasons is known to hold, or that none does
abbrev pub IsJudged : (Refusal → Type 0) → Option Refusal → Type 0
IsJudged Refuses (Some why) = Refuses why
IsJudged Refuses None = (why : Refusal) → ¬ Refuses why

-- why the command is refused after these lines, in every state that they can lead to
abbrev pub IsRefusedAfter : (texts : List (List ℕ)) → Command → Refusal → Type 0
IsRefusedAfter texts command why = IsRefused command why ⊎ IsMissing texts command why

-- Why the command after these lines is named: it is refused, or nothing refuses it and it is hardly meant.
abbrev pub IsNamedFor : (texts : List (List ℕ)) → Command → Refusal → Type 0
IsNamedFor texts command why = IsRefusedAfter texts command why
    ⊎ (IsDoubtful command why × ((other : Refusal) → ¬ IsRefusedAfter texts command other))

-- the text of a line is `P COMMAND`, and this is known of the command after these lines
pub record IsJudgedRequest (sizes : Config) (texts : List (List ℕ)) (text : List ℕ) (judged : Option Refusal) : Type 0 where
  pub cpu : ℕ
  pub command : Command
  pub is_text : IsRequestText sizes cpu command text
  pub short : length text ≤ longest_line
  pub judges : IsJudged (IsNamedFor texts command) judged

-- the text asks for nothing that a CPU could do: it is no `P COMMAND`, or is too long
abbrev pub AsksNothing : Config → List ℕ → Type 0
AsksNothing sizes text =
    (longest_line < length text) ⊎ ((cpu : ℕ) (command : Command) → ¬ IsRequestText sizes cpu command text)

-- the text of a line after these is a command that is refused or hardly meant for this reason; or it isn't
abbrev pub IsJudgedText : Config → (texts : List (List ℕ)) → List ℕ → Option Refusal → Type 0
IsJudgedText sizes texts text (Some why) = IsJudgedRequest sizes texts text (Some why)
IsJudgedText sizes texts text None = AsksNothing sizes text ⊎ IsJudgedRequest sizes texts text None
