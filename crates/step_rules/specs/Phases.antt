-- Tests on the phase of a frame, and how a step changes it.
use Rattle.std.specs.Prelude.{ℕ, ◌==◌, ◌&&◌, ◌||◌, Bool, true, false, Option, Some, None, if◌then◌else◌}
use Rattle.step_rules.specs.declared.phase.ChargedUnit.{ChargedUnit}
use Rattle.step_rules.specs.declared.phase.Way.{Way}
use Rattle.step_rules.specs.declared.phase.Way.TheVariants.{PassingOut, OnList, PassingBack}
use Rattle.step_rules.specs.declared.phase.Stage.{Stage}
use Rattle.step_rules.specs.declared.phase.Stage.TheVariants.{FreshAt, FreshPassing, Collected, Bare, Live, BackAt, AwaitsReturn, BackPassing}
use Rattle.step_rules.specs.declared.phase.Phase.{Phase}
use Rattle.step_rules.specs.declared.phase.Phase.TheVariants.{InZone, Lent, Head, Tail}

-- the three kinds of a CPU's frames: on its list, fresh, or back frames, whose last put it made
pub data Kind : Type 0 where
  ListFrame : Kind
  FreshFrame : Kind
  BackFrame : Kind

-- the frame is in the zone's free areas
abbrev pub is_free : Phase → Bool
is_free InZone = true
is_free _ = false

-- the frame heads a charged unit
abbrev pub is_head : Phase → Bool
is_head (Head unit stage) = true
is_head _ = false

-- the unit that the frame heads
abbrev pub unit_of : Phase → Option ChargedUnit
unit_of (Head unit stage) = Some unit
unit_of _ = None

-- the group that keeps the frame
abbrev pub keeper_of : Phase → Option ℕ
keeper_of (Head unit stage) = Some unit.group
keeper_of (Tail g) = Some g
keeper_of _ = None

-- the stage of a unit that has references
abbrev pub is_live_stage : Stage → Bool
is_live_stage Live = true
is_live_stage _ = false

-- the frame has references
abbrev pub is_live_phase : Phase → Bool
is_live_phase (Head unit stage) = is_live_stage stage
is_live_phase _ = false

-- the CPU has the unit's head as a frame of this kind
abbrev pub has_stage : Kind → ℕ → Stage → Bool
has_stage FreshFrame cpu (FreshAt other) = other == cpu
has_stage BackFrame cpu (BackAt other) = other == cpu
has_stage _ _ _ = false

-- the lent frame is on the CPU's list
abbrev pub has_lent : Kind → ℕ → ℕ → Way → Bool
has_lent ListFrame cpu other OnList = other == cpu
has_lent _ _ _ _ = false

-- the CPU has the frame as one of this kind
abbrev pub has_as : Kind → ℕ → Phase → Bool
has_as kind cpu (Lent other way) = has_lent kind cpu other way
has_as kind cpu (Head unit stage) = has_stage kind cpu stage
has_as _ _ _ = false

-- the lent frame is in transit to the CPU
abbrev pub is_out : Way → Bool
is_out PassingOut = true
is_out _ = false

-- the frame is in transit to this CPU
abbrev pub passes_out : ℕ → Phase → Bool
passes_out cpu (Lent other way) = is_out way && other == cpu
passes_out _ _ = false

-- the lent frame is in transit back to the zone
abbrev pub is_returning : Way → Bool
is_returning PassingBack = true
is_returning _ = false

-- the unit's head is in transit back from this CPU
abbrev pub stage_passes_back : ℕ → Stage → Bool
stage_passes_back cpu (FreshPassing other) = other == cpu
stage_passes_back cpu (BackPassing other) = other == cpu
stage_passes_back _ _ = false

-- the frame is in transit back from this CPU
abbrev pub passes_back : ℕ → Phase → Bool
passes_back cpu (Lent other way) = is_returning way && other == cpu
passes_back cpu (Head unit stage) = stage_passes_back cpu stage
passes_back _ _ = false

-- the unit's head is in transit
abbrev pub is_stage_passing : Stage → Bool
is_stage_passing (FreshPassing cpu) = true
is_stage_passing (BackPassing cpu) = true
is_stage_passing _ = false

-- the frame is in transit between the zone and a CPU
abbrev pub is_passing : Phase → Bool
is_passing (Lent other way) = is_out way || is_returning way
is_passing (Head unit stage) = is_stage_passing stage
is_passing _ = false

-- the unit's head is in the zone's hand
abbrev pub is_stage_in_hand : Stage → Bool
is_stage_in_hand Collected = true
is_stage_in_hand Bare = true
is_stage_in_hand AwaitsReturn = true
is_stage_in_hand _ = false

-- the frame heads a charged unit, and is in the zone's hand
abbrev pub is_head_in_hand : Phase → Bool
is_head_in_hand (Head unit stage) = is_stage_in_hand stage
is_head_in_hand _ = false

-- the unit may be returned: its last reference was dropped, or it was collected fresh and its group is killed
abbrev pub is_stage_returnable : Bool → Stage → Bool
is_stage_returnable is_killed AwaitsReturn = true
is_stage_returnable is_killed Collected = is_killed
is_stage_returnable is_killed _ = false

-- the frame heads a unit that may be returned
abbrev pub is_returnable : (ℕ → Bool) → Phase → Bool
is_returnable killed (Head unit stage) = is_stage_returnable (killed unit.group) stage
is_returnable killed _ = false

-- the same unit, at another stage
abbrev pub at_stage : Stage → Phase → Phase
at_stage stage (Head unit old) = Head unit stage
at_stage stage InZone = InZone
at_stage stage (Lent other way) = Lent other way
at_stage stage (Tail g) = Tail g

-- the stage after a last put: the head is a CPU's back frame, or in the zone's hand
abbrev pub stage_after_last : ℕ → Stage
stage_after_last seat = if seat == 0 then AwaitsReturn else BackAt seat

-- the stage of a unit whose head is passed back
abbrev pub stage_passed_back : Stage → Stage
stage_passed_back (FreshAt cpu) = FreshPassing cpu
stage_passed_back (BackAt cpu) = BackPassing cpu
stage_passed_back (FreshPassing cpu) = FreshPassing cpu
stage_passed_back Collected = Collected
stage_passed_back Bare = Bare
stage_passed_back Live = Live
stage_passed_back (BackPassing cpu) = BackPassing cpu
stage_passed_back AwaitsReturn = AwaitsReturn

-- the phase of a frame that is passed back
abbrev pub passed_back : Phase → Phase
passed_back (Lent cpu way) = Lent cpu PassingBack
passed_back (Head unit stage) = Head unit (stage_passed_back stage)
passed_back InZone = InZone
passed_back (Tail g) = Tail g

-- the stage of a unit whose head is collected
abbrev pub stage_collected : Stage → Stage
stage_collected (FreshPassing cpu) = Collected
stage_collected (BackPassing cpu) = AwaitsReturn
stage_collected (FreshAt cpu) = FreshAt cpu
stage_collected Collected = Collected
stage_collected Bare = Bare
stage_collected Live = Live
stage_collected (BackAt cpu) = BackAt cpu
stage_collected AwaitsReturn = AwaitsReturn

-- the phase of a frame that is collected: a frame of the list is free again
abbrev pub collected : Phase → Phase
collected (Lent cpu way) = InZone
collected (Head unit stage) = Head unit (stage_collected stage)
collected InZone = InZone
collected (Tail g) = Tail g
