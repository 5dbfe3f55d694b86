-- For which limit, and for how many more pages, a command may have groups killed. Only an Alloc and a Write may.
use Rattle.std.specs.Prelude.{◌≡◌, ℕ, ◌^◌, Option, List}
use Rattle.group_tree.specs.declared.group.Group.{Group}
use Rattle.group_tree.specs.Groups.{with_limit}
use Rattle.mem_alloc.specs.NoRash.{IsChargedBelow}
use Rattle.mem_system.specs.declared.command.LockedCommand.{LockedCommand}
use Rattle.mem_system.specs.declared.command.LockedCommand.TheVariants.{Write, Alloc}
use Rattle.mem_system.specs.declared.setting.Setting.TheVariants.{Max}

-- What groups are killed for: the limit of this group has no room for this many more pages. With it come the groups and
-- their limits, as the command found them and as they are now.
pub record Ask : Type 0 where
  pub groups_before : List Group
  pub groups : List Group
  pub limited : ℕ
  pub pages : ℕ

-- an Alloc asks for its pages, at most 8, under the limit of its group or of an ancestor, and changes no limit itself
pub record AsksForPages (group order : ℕ) (asked : Ask) : Type 0 where
  pub same : asked.groups ≡ asked.groups_before
  pub below : IsChargedBelow group (2 ^ order) asked.groups asked.limited asked.pages

-- a Write asks under the limit that it sets, for no more pages
pub record AsksForLimit (group : ℕ) (limit : Option ℕ) (asked : Ask) : Type 0 where
  pub limited : asked.limited ≡ group
  pub now_is : asked.groups ≡ with_limit asked.groups_before group limit
  pub no_page : asked.pages ≡ 0

-- the command may have groups killed for this
abbrev pub MayAsk : LockedCommand → Ask → Type 0
MayAsk (Alloc group order) asked = AsksForPages group order asked
MayAsk (Write group (Max limit)) asked = AsksForLimit group limit asked
MayAsk other asked = ⊥

-- a command that found groups `was` may have groups killed for this limit and this many more pages, by the groups as
-- they are now
abbrev pub MayAskFor : LockedCommand → (was now : List Group) (limited pages : ℕ) → Type 0
MayAskFor cmd was now limited pages =
    MayAsk cmd (record { groups_before = was; groups = now; limited = limited; pages = pages })
