-- Each group that keeps a frame or a page exists.
use Rattle.std.specs.Prelude.{◌≡◌, ℕ, ◌+◌, ◌<◌, ◌≤◌, true, false, Some, None}
use Rattle.group_tree.specs.{most_groups, has_group, parent_of, AreGroups}
use Rattle.step_rules.specs.Phases.{keeper_of}
use Rattle.step_rules.specs.State.{Zone, State, HasRoom, is_cpu, visits}
use Rattle.step_rules.specs.Legal.{no_page_pends}
use Rattle.step_rules.specs.After.{Run, state_of, IsLegalRun}
use Rattle.step_rules.specs.Views.{holds_lock}

-- The group of a CPU's stock exists if the stock has a page, or if the book has pages beyond those unreported and
-- reported. A stock that was never filled has no page and no book, and isn't drained. A drained stock has no page.
-- Pages are in the stocks of CPUs alone, and are unreported or reported only in an open visit.
pub record StockIsKept (s : State) (cpu : ℕ) : Type 0 where
  pub stock : (g : ℕ) → (s.parts cpu).stock.group ≡ Some g → 1 ≤ (s.parts cpu).stock.pages → has_group s.groups g ≡ true
  pub book : (g : ℕ) → (s.parts cpu).stock.group ≡ Some g
      → (s.parts cpu).unreported + (s.parts cpu).reported < (s.parts cpu).book → has_group s.groups g ≡ true
  pub no_group : (s.parts cpu).stock.group ≡ None → (s.parts cpu).stock.pages ≡ 0
  pub no_book : (s.parts cpu).stock.group ≡ None → (s.parts cpu).book ≡ 0
  pub not_drained : (s.parts cpu).stock.group ≡ None → (s.parts cpu).stock.is_drained ≡ false
  pub drained : (s.parts cpu).stock.is_drained ≡ true → (s.parts cpu).stock.pages ≡ 0
  pub no_cpu : is_cpu s.zone cpu ≡ false → (s.parts cpu).stock.pages ≡ 0
  pub unreported : visits cpu s.hold ≡ false → (s.parts cpu).unreported ≡ 0
  pub reported : visits cpu s.hold ≡ false → (s.parts cpu).reported ≡ 0

-- The groups are those of a tree with the zone's room, so that there are never more, with numbers below `most_groups`.
-- Each that keeps a frame or a page, or has children, exists, killed or not. If no number below that has pending pages, no
-- number has. The holder of the lock is a CPU.
pub record KeepersAreThere (s : State) : Type 0 where
  pub groups : AreGroups s.groups
  pub room : HasRoom s.zone s.groups
  pub numbers : (g : ℕ) → has_group s.groups g ≡ true → g < most_groups
  pub parents : (g h : ℕ) → parent_of s.groups g ≡ Some h → has_group s.groups h ≡ true
  pub frames : (f g : ℕ) → keeper_of (s.phases f) ≡ Some g → has_group s.groups g ≡ true
  pub parts : (cpu : ℕ) → StockIsKept s cpu
  pub pending : (g : ℕ) → has_group s.groups g ≡ false → s.pending g ≡ 0
  pub settled : no_page_pends s ≡ true → (g : ℕ) → s.pending g ≡ 0
  pub holder : (cpu : ℕ) → holds_lock cpu s.hold ≡ true → is_cpu s.zone cpu ≡ true

-- after every legal run each group that keeps a frame or a page exists
abbrev pub AllKeepersAreThere : Type 0
AllKeepersAreThere = (zone : Zone) (run : Run) → IsLegalRun zone run → KeepersAreThere (state_of zone run)
