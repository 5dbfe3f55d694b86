-- What is left of the state if every CPU's own part is hidden, and that state with one CPU's own part shown. `seen_by 0`
-- would not do: it shows the fresh and back frames of number 0.
use Rattle.std.specs.Prelude.{ℕ, ◌==◌, ◌&&◌, nat_le, if◌then◌else◌, unwrap_or}
use Rattle.step_rules.specs.declared.phase.ChargedUnit.{ChargedUnit}
use Rattle.step_rules.specs.declared.phase.Way.TheVariants.{OnList}
use Rattle.step_rules.specs.declared.phase.Stage.{Stage}
use Rattle.step_rules.specs.declared.phase.Stage.TheVariants.{FreshAt, FreshPassing, Collected, Bare, Live, BackAt, AwaitsReturn, BackPassing}
use Rattle.step_rules.specs.declared.phase.Phase.{Phase}
use Rattle.step_rules.specs.declared.phase.Phase.TheVariants.{InZone, Lent, Head, Tail}
use Rattle.step_rules.specs.State.{State, Part, with_at, times}
use Rattle.step_rules.specs.Views.{other_part_seen}

-- the head of a unit with every CPU's frames hidden: a fresh frame is on that CPU's list, and a back frame has
-- references
abbrev pub hide_stage : ChargedUnit → Stage → Phase
hide_stage unit (FreshAt cpu) = Lent cpu OnList
hide_stage unit (BackAt cpu) = Head unit Live
hide_stage unit (FreshPassing cpu) = Head unit (FreshPassing cpu)
hide_stage unit Collected = Head unit Collected
hide_stage unit Bare = Head unit Bare
hide_stage unit Live = Head unit Live
hide_stage unit (BackPassing cpu) = Head unit (BackPassing cpu)
hide_stage unit AwaitsReturn = Head unit AwaitsReturn

-- the phase with every CPU's frames hidden
abbrev pub hide_phase : Phase → Phase
hide_phase (Head unit stage) = hide_stage unit stage
hide_phase InZone = InZone
hide_phase (Lent cpu way) = Lent cpu way
hide_phase (Tail g) = Tail g

-- the zone's references alone
abbrev pub zone_references : (ℕ → ℕ → ℕ) → ℕ → ℕ → ℕ
zone_references references seat f = if seat == 0 then references seat f else 0

-- the state with every CPU's frames, lists and references hidden
abbrev pub hide : State → State
hide s = record s {
  phases = λ f. hide_phase (s.phases f);
  references = zone_references s.references;
  parts = λ cpu. other_part_seen (s.parts cpu);
}

-- the hidden phase of a frame, with the CPU's own fresh and back frames shown, by its part
abbrev pub show_phase : ℕ → Part → ℕ → Phase → Phase
show_phase cpu part f (Lent other way) = if other == cpu && nat_le 1 (times f part.fresh)
    then Head (record { group = unwrap_or part.stock.group 0; order = 0 }) (FreshAt other) else Lent other way
show_phase cpu part f (Head unit stage) =
    if nat_le 1 (times f part.back) then Head unit (BackAt cpu) else Head unit stage
show_phase cpu part f InZone = InZone
show_phase cpu part f (Tail g) = Tail g

-- the hidden state with a CPU's own part and references shown
abbrev pub show_own : ℕ → Part → (ℕ → ℕ) → State → State
show_own cpu part references s = record s {
  phases = λ f. show_phase cpu part f (s.phases f);
  references = with_at s.references cpu references;
  parts = with_at s.parts cpu part;
}
