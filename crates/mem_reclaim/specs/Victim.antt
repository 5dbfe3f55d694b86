-- Which group is killed if a limit can't be kept otherwise.
use Rattle.std.specs.Prelude.{◌≡◌, ℕ, ◌≤◌, ◌==◌, ◌&&◌, ◌⊎◌, not, nat_le, Bool, true, false, Option, Some, None}
use Rattle.group_tree.specs.{in_subtree, room_of}
use Rattle.step_rules.specs.State.{one_if, sum_to}
use Rattle.group_charge.specs.declared.note.Candidate.{Candidate}
use Rattle.group_charge.specs.declared.note.Note.{Note}
use Rattle.group_charge.specs.declared.note.Note.TheVariants.{Victim}
use Rattle.mem_machine.specs.Machines.{KnownMachine, is_killed, frames_charged}

-- the other group is the group or a descendant of it, and isn't killed
abbrev pub may_be_killed : KnownMachine → ℕ → ℕ → Bool
may_be_killed machine group other = in_subtree machine.ledger.groups group other && not (is_killed machine.killed other)

-- The frames by which the victim is chosen: those charged to the group itself. Frames of units that aren't kept any
-- more count; a CPU's fresh frames don't.
abbrev pub own_frames : KnownMachine → ℕ → ℕ
own_frames machine group = frames_charged machine.frame_states group

-- of the groups that the test chooses, this one has the most frames of its own, at least one, and the least number
-- among those with as many
pub record HasMost (machine : KnownMachine) (test : ℕ → Bool) (group : ℕ) : Type 0 where
  pub chosen : test group ≡ true
  pub some : 1 ≤ own_frames machine group
  pub most : (other : ℕ) → test other ≡ true → own_frames machine other ≤ own_frames machine group
  pub least : (other : ℕ) → test other ≡ true → own_frames machine other ≡ own_frames machine group → group ≤ other

-- the group with the most frames of its own among those that the test chooses; None if none of them has a frame of its
-- own
abbrev pub IsMost : KnownMachine → (ℕ → Bool) → Option ℕ → Type 0
IsMost machine test (Some group) = HasMost machine test group
IsMost machine test None = (other : ℕ) → test other ≡ true → own_frames machine other ≡ 0

-- The victim for the group is one of the groups of its subtree that aren't killed. Of these it has the most frames of
-- its own, and the least number among those with as many. There is no victim if none has a frame of its own.
abbrev pub IsVictim : KnownMachine → ℕ → Option ℕ → Type 0
IsVictim machine group who = IsMost machine (may_be_killed machine group) who

-- the other group is the one that is excluded, if one is
abbrev pub is_excluded : Option ℕ → ℕ → Bool
is_excluded None other = false
is_excluded (Some excluded) other = excluded == other

-- the other group may be killed for the group, and isn't excluded
abbrev pub may_be_chosen : KnownMachine → ℕ → Option ℕ → ℕ → Bool
may_be_chosen machine group excluded other = not (is_excluded excluded other) && may_be_killed machine group other

-- the next after the victim: the group that would be the victim without it, or the victim again if there would be none
abbrev pub IsNext : KnownMachine → ℕ → ℕ → ℕ → Type 0
IsNext machine group victim next =
    IsMost machine (may_be_chosen machine group (Some victim)) (Some next)
    ⊎ (IsMost machine (may_be_chosen machine group (Some victim)) None × (next ≡ victim))

-- the other group may be killed for the group, and has frames of its own
abbrev pub is_candidate : KnownMachine → ℕ → ℕ → Bool
is_candidate machine group other = may_be_killed machine group other && nat_le 1 (own_frames machine other)

-- how many groups may be killed for the group and have frames of their own
abbrev pub candidates : KnownMachine → ℕ → ℕ
candidates machine group = sum_to (room_of machine.ledger.groups) (λ other. one_if (is_candidate machine group other))

-- a group with the number of its frames
abbrev pub candidate : KnownMachine → ℕ → Candidate
candidate machine group = record { group = group; frames = own_frames machine group }

-- the note of the victim for the group, and of the next
abbrev pub victim_note : KnownMachine → ℕ → ℕ → ℕ → Note
victim_note machine group victim next =
    Victim (candidate machine victim) (candidates machine group) (candidate machine next)
