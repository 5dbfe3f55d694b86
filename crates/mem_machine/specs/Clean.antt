-- The clean pages on the lists of each group.
use Rattle.std.specs.Prelude.{◌≡◌, ℕ, ◌+◌, ◌-◌, ◌^◌, ◌==◌, Bool, true, false, Option, Some, None, List, length, slice_index_or, slice_set, if◌then◌else◌}
use Rattle.lru_lists.specs.declared.record.Link.{Link}
use Rattle.lru_lists.specs.{link_at, owner_of}
use Rattle.step_rules.specs.{sum_to}
use Rattle.mem_machine.specs.declared.frame_state.FrameState.{FrameState}
use Rattle.mem_machine.specs.declared.frame_state.FrameState.TheVariants.{Head}
use Rattle.mem_machine.specs.FrameStates.{frame_state_at}
use Rattle.mem_machine.specs.Machines.{KnownMachine}

-- how many pages the unit has that the frame heads; 0 if it heads none
abbrev pub pages_headed : FrameState → ℕ
pages_headed (Head unit) = 2 ^ unit.order
pages_headed _ = 0

-- the group on whose list the unit is, if it is on one and clean
abbrev pub clean_owner : Link → Option ℕ
clean_owner link = if link.is_dirty then None else owner_of link.home

-- this many pages if the group is the wanted one, else none
abbrev pub pages_if_is : (wanted : ℕ) → Option ℕ → (pages : ℕ) → ℕ
pages_if_is wanted None pages = 0
pages_if_is wanted (Some group) pages = if group == wanted then pages else 0

-- how many pages the clean units on the group's lists have, by the frames that head them
abbrev pub clean_pages_in : List FrameState → List Link → (group : ℕ) → ℕ
clean_pages_in frame_states links group = sum_to (length frame_states)
    (λ frame. pages_if_is group (clean_owner (link_at links frame)) (pages_headed (frame_state_at frame_states frame)))

-- how many clean pages the group keeps in this machine
abbrev pub clean_pages : KnownMachine → (group : ℕ) → ℕ
clean_pages machine group = clean_pages_in machine.frame_states machine.links group

-- the counts are those of the clean pages of so many groups, by number; a group beyond has none
pub record AreCleanCounts (room : ℕ) (frame_states : List FrameState) (links : List Link) (counts : List ℕ) : Type 0 where
  pub size : length counts ≡ room
  pub each : (group : ℕ) → slice_index_or counts group 0 ≡ clean_pages_in frame_states links group

-- the counts after a clean unit of this order joined its group's lists
abbrev pub clean_joined : (group order : ℕ) → List ℕ → List ℕ
clean_joined group order counts = slice_set counts group (slice_index_or counts group 0 + 2 ^ order)

-- the counts after a unit left its group's lists; a dirty one was in no count
abbrev pub clean_left : (is_dirty : Bool) → (group order : ℕ) → List ℕ → List ℕ
clean_left true group order counts = counts
clean_left false group order counts = slice_set counts group (slice_index_or counts group 0 - 2 ^ order)

-- the counts after a unit of this order that was dirty or clean is dirty or clean
abbrev pub clean_dirtied : (was_dirty is_dirty : Bool) → (group order : ℕ) → List ℕ → List ℕ
clean_dirtied false true group order counts = clean_left false group order counts
clean_dirtied true false group order counts = clean_joined group order counts
clean_dirtied _ _ group order counts = counts
