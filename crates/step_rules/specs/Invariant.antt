-- The two invariants: what holds of the state after every legal run.
use Rattle.std.specs.Prelude.{◌≡◌, ℕ, ◌+◌, ◌^◌, ◌<◌, ◌≤◌, Bool, true, false, Option, Some, None, List, length}
use Rattle.group_tree.specs.declared.group.Group.{Group}
use Rattle.group_tree.specs.Groups.{has_group, AreGroups}
use Rattle.group_tree.specs.{is_there}
use Rattle.step_rules.specs.declared.phase.Hold.{Hold}
use Rattle.step_rules.specs.declared.phase.Hold.TheVariants.{Visiting}
use Rattle.step_rules.specs.declared.phase.ChargedUnit.{ChargedUnit}
use Rattle.step_rules.specs.declared.phase.Stage.{Stage}
use Rattle.step_rules.specs.declared.phase.Stage.TheVariants.{FreshAt}
use Rattle.step_rules.specs.declared.phase.Phase.{Phase}
use Rattle.step_rules.specs.declared.phase.Phase.TheVariants.{Head, Tail}
use Rattle.step_rules.specs.Phases.{Kind, is_free, is_live_phase, keeper_of, has_as, passes_out, passes_back, unit_of}
use Rattle.step_rules.specs.State.{Zone, Part, State, HasRoom, one_if, times, frames_of, is_cpu, visits}
use Rattle.step_rules.specs.Views.{holds_lock}

-- the CPU paid for the unit, a frame, from a stock of the unit's group
pub record IsPaid (cpus : ℕ) (groups : ℕ → Option ℕ) (unit : ChargedUnit) (q : ℕ) : Type 0 where
  pub group : groups q ≡ Some unit.group
  pub order : unit.order ≡ 0
  pub low : 1 ≤ q
  pub high : q ≤ cpus

-- a unit at this stage was paid by its CPU if it is fresh
abbrev pub StagePaid : ℕ → (ℕ → Option ℕ) → ChargedUnit → Stage → Type 0
StagePaid cpus groups unit (FreshAt q) = IsPaid cpus groups unit q
StagePaid cpus groups unit _ = Unit {0}

-- a frame in this phase was paid by its CPU if it is fresh
abbrev pub PhasePaid : ℕ → (ℕ → Option ℕ) → Phase → Type 0
PhasePaid cpus groups (Head unit stage) = StagePaid cpus groups unit stage
PhasePaid cpus groups _ = Unit {0}

-- what holds of one frame: it passes only for who is visited, it has references only where it is live, a fresh one was
-- paid, and beyond the zone there is nothing
pub record FrameFits (zone : Zone) (hold : Hold) (groups : ℕ → Option ℕ) (references : ℕ → ℕ) (f : ℕ) (x : Phase) : Type 0 where
  pub out : (q : ℕ) → passes_out q x ≡ true → hold ≡ Visiting q
  pub returning : (q : ℕ) → passes_back q x ≡ true → hold ≡ Visiting q
  pub unreferred : is_live_phase x ≡ false → (seat : ℕ) → references seat ≡ 0
  pub seats : (seat : ℕ) → zone.cpus < seat → references seat ≡ 0
  pub paid : PhasePaid zone.cpus groups x
  pub inside : zone.frames ≤ f → is_free x ≡ true

-- the groups of the stocks
abbrev pub groups_in : (ℕ → Part) → ℕ → Option ℕ
groups_in parts q = (parts q).stock.group

-- the frames of a unit after its head are its tails
abbrev pub HaveTails : (ℕ → Phase) → Type 0
HaveTails phases = (f : ℕ) (unit : ChargedUnit) → unit_of (phases f) ≡ Some unit → (x : ℕ) → f < x → x < f + 2 ^ unit.order → phases x ≡ Tail unit.group

-- a CPU's book is the pages of its stock, its fresh frames, and what it passed back and isn't absorbed
abbrev pub IsBooked : Part → Type 0
IsBooked part = part.book ≡ part.stock.pages + length part.fresh + part.unreported + part.reported

-- what holds of the frames, the references and the parts
pub record StateInvariant (zone : Zone) (hold : Hold) (phases : ℕ → Phase) (references : ℕ → ℕ → ℕ) (parts : ℕ → Part) : Type 0 where
  pub frames : (f : ℕ) → FrameFits zone hold (groups_in parts) (λ seat. references seat f) f (phases f)
  pub lists : (q : ℕ) (kind : Kind) (f : ℕ) → times f (frames_of (parts q) kind) ≡ one_if (has_as kind q (phases f))
  pub units : HaveTails phases
  pub booked : (q : ℕ) → IsBooked (parts q)

-- the first invariant: of a state's frames, references and parts
abbrev pub KeepsInvariant : State → Type 0
KeepsInvariant s = StateInvariant s.zone s.hold s.phases s.references s.parts

-- there is a group, and it is there
abbrev pub some_there : List Group → Option ℕ → Bool
some_there groups None = false
some_there groups (Some g) = has_group groups g

-- pages that aren't absorbed
abbrev pub told_pages : Part → ℕ
told_pages part = part.unreported + part.reported

-- the groups are a tree with the zone's room, each that keeps a frame or a page is there, and only a visit has pages that
-- aren't absorbed
pub record Homes (zone : Zone) (hold : Hold) (groups : List Group) (phases : ℕ → Phase) (parts : ℕ → Part) (pending : ℕ → ℕ) : Type 0 where
  pub tree : AreGroups groups
  pub room : HasRoom zone groups
  pub frames : (f : ℕ) → is_there groups (keeper_of (phases f)) ≡ true
  pub stocks : (q : ℕ) → 1 ≤ (parts q).stock.pages → some_there groups (parts q).stock.group ≡ true
  pub beyond : (q : ℕ) → is_cpu zone q ≡ false → (parts q).stock.pages ≡ 0
  pub pages : (g : ℕ) → has_group groups g ≡ false → pending g ≡ 0
  pub holder : (q : ℕ) → holds_lock q hold ≡ true → is_cpu zone q ≡ true
  pub quiet : (q : ℕ) → visits q hold ≡ false → told_pages (parts q) ≡ 0

-- the second invariant: each group of a state that keeps a frame or a page is there
abbrev pub IsHomed : State → Type 0
IsHomed s = Homes s.zone s.hold s.groups s.phases s.parts s.pending
