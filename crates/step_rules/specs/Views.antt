-- What a CPU sees while it holds the lock: the state as if each other CPU had put its fresh frames back on its list and
-- their pages into its stock. It doesn't see others' lists, back frames and references.
use Rattle.std.specs.Prelude.{ℕ, ◌+◌, ◌==◌, ◌||◌, Bool, [], length, if◌then◌else◌}
use Rattle.step_rules.specs.declared.phase.Hold.{Hold}
use Rattle.step_rules.specs.declared.phase.Way.TheVariants.{OnList}
use Rattle.step_rules.specs.declared.phase.ChargedUnit.{ChargedUnit}
use Rattle.step_rules.specs.declared.phase.Stage.{Stage}
use Rattle.step_rules.specs.declared.phase.Stage.TheVariants.{FreshAt, FreshPassing, Collected, Bare, Live, BackAt, AwaitsReturn, BackPassing}
use Rattle.step_rules.specs.declared.phase.Phase.{Phase}
use Rattle.step_rules.specs.declared.phase.Phase.TheVariants.{InZone, Lent, Head, Tail}
use Rattle.step_rules.specs.State.{State, Part, is_held_by, visits}

-- the head of a unit as the CPU sees it: another CPU's fresh frame is on that CPU's list, and another CPU's back frame
-- has references
abbrev pub stage_seen_by : ℕ → ChargedUnit → Stage → Phase
stage_seen_by cpu unit (FreshAt other) = if other == cpu then Head unit (FreshAt other) else Lent other OnList
stage_seen_by cpu unit (BackAt other) = if other == cpu then Head unit (BackAt other) else Head unit Live
stage_seen_by cpu unit (FreshPassing other) = Head unit (FreshPassing other)
stage_seen_by cpu unit Collected = Head unit Collected
stage_seen_by cpu unit Bare = Head unit Bare
stage_seen_by cpu unit Live = Head unit Live
stage_seen_by cpu unit (BackPassing other) = Head unit (BackPassing other)
stage_seen_by cpu unit AwaitsReturn = Head unit AwaitsReturn

-- the phase of a frame as the CPU sees it
abbrev pub phase_seen_by : ℕ → Phase → Phase
phase_seen_by cpu (Head unit stage) = stage_seen_by cpu unit stage
phase_seen_by cpu InZone = InZone
phase_seen_by cpu (Lent other way) = Lent other way
phase_seen_by cpu (Tail g) = Tail g

-- another CPU's part as a CPU sees it: no lists, and the pages of the fresh frames in the stock
abbrev pub other_part_seen : Part → Part
other_part_seen part = record part {
  list = [];
  fresh = [];
  back = [];
  stock = record (part.stock) { pages = part.stock.pages + length part.fresh };
}

-- the parts as the CPU sees them: its own as it is
abbrev pub parts_seen_by : ℕ → (ℕ → Part) → ℕ → Part
parts_seen_by cpu parts other = if other == cpu then parts other else other_part_seen (parts other)

-- the references as the CPU sees them: its own and the zone's
abbrev pub references_seen_by : ℕ → (ℕ → ℕ → ℕ) → ℕ → ℕ → ℕ
references_seen_by cpu references seat f = if seat == 0 || seat == cpu then references seat f else 0

-- the state as the CPU sees it
abbrev pub seen_by : ℕ → State → State
seen_by cpu s = record s {
  phases = λ f. phase_seen_by cpu (s.phases f);
  references = references_seen_by cpu s.references;
  parts = parts_seen_by cpu s.parts;
}

-- the CPU holds the lock
abbrev pub holds_lock : ℕ → Hold → Bool
holds_lock cpu hold = is_held_by cpu hold || visits cpu hold
