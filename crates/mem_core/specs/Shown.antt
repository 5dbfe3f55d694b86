-- What a core shows, and the state of which runs.
use Rattle.std.specs.Prelude.{◌≡◌, ℕ, Bool, true, false, Option, Some, None, List, length}
use Rattle.std.specs.List.{slice_get, slice_index_or}
use Rattle.zone_blocks.specs.declared.block.Block.{Block}
use Rattle.zone_blocks.specs.Areas.{AreMaximalBlocks}
use Rattle.group_tree.specs.declared.event.EventKey.{EventKey}
use Rattle.group_tree.specs.declared.group.Group.{Group}
use Rattle.group_tree.specs.{count_of, has_group}
use Rattle.step_rules.specs.declared.phase.Hold.{Hold}
use Rattle.step_rules.specs.declared.phase.Phase.{Phase}
use Rattle.step_rules.specs.declared.phase.Phase.TheVariants.{InZone}
use Rattle.step_rules.specs.{Zone, Part, no_part, free_in, Run, state_of, IsLegalRun, IsPeak, events_in, events_local_in}
use Rattle.step_rules.specs.State.{State}
use Rattle.zone_blocks.specs.declared.config.Config.{Config}
use Rattle.mem_core.specs.Accounts.{Account, account_in}

-- the zone that boots with these sizes
abbrev pub zone_of_config : Config → Zone
zone_of_config config = record { frames = config.frames; cpus = config.cpus; groups = config.choices.groups }

-- what a core shows of a seat: its references on each frame, and its part
pub record SeatState : Type 0 where
  pub references : List ℕ
  pub part : Part

-- What a core shows: the sizes, who holds the lock, the groups, the free areas and the number of steps. Also, for
-- each group number: whether it is killed, its pending pages and its account. For each frame: its phase. For each
-- seat: its references and its part.
pub record CoreState : Type 0 where
  pub zone : Zone
  pub hold : Hold
  pub groups : List Group
  pub killed : List Bool
  pub phases : List Phase
  pub seats : List SeatState
  pub pending : List ℕ
  pub accounts : List Account
  pub areas : List Block
  pub steps : ℕ

-- the references of this seat on a frame; 0 if there is no such seat
abbrev pub reference_at : Option SeatState → ℕ → ℕ
reference_at None f = 0
reference_at (Some s) f = slice_index_or s.references f 0

-- the part of this seat; an empty one if there is no such seat
abbrev pub part_of_seat : Option SeatState → Part
part_of_seat None = no_part
part_of_seat (Some s) = s.part

-- the state of the rules that a core represents; beyond the end of each list it has the values of a new boot
abbrev pub state_shown : CoreState → State
state_shown s = record {
  zone = s.zone;
  hold = s.hold;
  groups = s.groups;
  killed = λ g. slice_index_or s.killed g false;
  phases = λ f. slice_index_or s.phases f InZone;
  references = λ seat f. reference_at (slice_get s.seats seat) f;
  parts = λ cpu. part_of_seat (slice_get s.seats cpu);
  pending = λ g. slice_index_or s.pending g 0;
}

-- for each existing group the accounts have the peak and the event counts that the run defines
pub record AccountsMatchRun (zone : Zone) (run : Run) (accounts : List Account) : Type 0 where
  pub peaks : (g : ℕ) → has_group (state_of zone run).groups g ≡ true → IsPeak zone run g (account_in accounts g).peak
  pub events : (key : EventKey) (g : ℕ) → has_group (state_of zone run).groups g ≡ true
      → count_of (account_in accounts g).events key ≡ events_in key zone run g
  pub events_local : (key : EventKey) (g : ℕ) → has_group (state_of zone run).groups g ≡ true
      → count_of (account_in accounts g).events_local key ≡ events_local_in key zone run g

-- the run is legal, and the core is what it leads to
pub record ShowsRun (s : CoreState) (run : Run) : Type 0 where
  pub legal : IsLegalRun s.zone run
  pub steps : s.steps ≡ length run
  pub state : state_shown s ≡ state_of s.zone run
  pub accounts : AccountsMatchRun s.zone run s.accounts

-- the free areas are the maximal blocks of the free frames
abbrev pub HasMaximalAreas : CoreState → Type 0
HasMaximalAreas s = AreMaximalBlocks (free_in s.zone (state_shown s).phases) s.areas
