-- What each reason means.
use Rattle.std.specs.Prelude.{◌≡◌, ◌≢◌, ℕ, ◌<◌, ◌≤◌, true, false, Some}
use Rattle.zone_blocks.specs.declared.block.Block.{Block}
use Rattle.zone_blocks.specs.{Covers, IsBlock, IsFreeBlock}
use Rattle.group_tree.specs.{IsLeastFreeNumber, limit_of, make_fault, path_of, IsLowestOver, PathHasRoom}
use Rattle.step_rules.specs.declared.phase.Phase.TheVariants.{Head}
use Rattle.step_rules.specs.declared.phase.Stage.TheVariants.{Collected}
use Rattle.step_rules.specs.declared.step.Action.{Action}
use Rattle.step_rules.specs.declared.step.Action.TheVariants.{Absorb, Consume, Credit, DrainStock, Freeze, Get, Grant, Make, PlaceBlock, Put}
use Rattle.step_rules.specs.declared.step.Step.{Step}
use Rattle.step_rules.specs.declared.step.Answer.{Answer}
use Rattle.step_rules.specs.declared.step.Answer.TheVariants.{Done, Empty, Illegal, Placed, Took}
use Rattle.step_rules.specs.Phases.{ListFrame}
use Rattle.step_rules.specs.{has_as, is_free, is_passing, free_in, front_of, live_references, usage_of, IsAnswer, is_legal, rests}
use Rattle.step_rules.specs.State.{State}
use Rattle.mem_core.specs.declared.quantity.Quantity.TheVariants.{InStock, Pending, References, Reported}
use Rattle.log_check.specs.declared.reason.Reason.{Reason}
use Rattle.log_check.specs.declared.reason.Reason.TheVariants as why
use Rattle.mem_core.specs.declared.conditions.PlaceTest.TheVariants.{Passable, Returnable}
use Rattle.mem_core.specs.declared.conditions.Condition.{Condition}
use Rattle.mem_core.specs.declared.conditions.Condition.TheVariants.{Cpu, ZoneSeat, AnySeat, Locked, Unlocked, HeldBy, Visited, Frame, Group}
use Rattle.mem_core.specs.declared.conditions.Condition.TheVariants.{NonePending, NonePassing, NonePassingAt, AtLeast, Below, IsZero, OneUp, UpTo255}
use Rattle.mem_core.specs.declared.conditions.Condition.TheVariants.{InPlace, TakesFill, NotKilled, NotRoot, NoChild, Makeable}
use Rattle.mem_core.specs.Conditions.{conditions_of, first_unmet, is_in_place, is_met, quantity_in}

-- the reason says of the state why this condition isn't met
abbrev pub ShowsUnmet : State → Condition → Reason → Type 0
ShowsUnmet s (Cpu seat) (why.NoCpu p) = p ≡ seat
ShowsUnmet s (ZoneSeat seat) (why.NoZoneSeat p) = p ≡ seat
ShowsUnmet s (AnySeat seat) (why.NoCpu p) = (p ≡ seat) × (seat ≢ 0)
ShowsUnmet s (AnySeat seat) (why.Lock hold) = (s.hold ≡ hold) × (seat ≡ 0)
ShowsUnmet s Locked (why.Lock hold) = s.hold ≡ hold
ShowsUnmet s Unlocked (why.Lock hold) = s.hold ≡ hold
ShowsUnmet s (HeldBy cpu) (why.Lock hold) = s.hold ≡ hold
ShowsUnmet s (Visited cpu) (why.Lock hold) = s.hold ≡ hold
ShowsUnmet s (Frame f) (why.NoFrame m) = m ≡ f
ShowsUnmet s (Group g) (why.NoGroup m) = m ≡ g
ShowsUnmet s NonePending (why.Number (Pending g) n) = (s.pending g ≡ n) × (1 ≤ n)
    × ((h : ℕ) → h < g → s.pending h ≡ 0)
ShowsUnmet s NonePassing (why.Place f phase) = (s.phases f ≡ phase) × (is_passing phase ≡ true)
    × ((e : ℕ) → e < f → is_passing (s.phases e) ≡ false)
ShowsUnmet s (NonePassingAt cpu) (why.Place f phase) = (s.phases f ≡ phase) × (rests s cpu f ≡ false)
    × ((e : ℕ) → e < f → rests s cpu e ≡ true)
ShowsUnmet s (AtLeast what n) (why.Number q k) = (q ≡ what) × (quantity_in s what ≡ k)
ShowsUnmet s (Below what n) (why.Number q k) = (q ≡ what) × (quantity_in s what ≡ k)
ShowsUnmet s (IsZero what) (why.Number q k) = (q ≡ what) × (quantity_in s what ≡ k)
ShowsUnmet s (OneUp n) why.BadCount = Unit {0}
ShowsUnmet s (UpTo255 n) why.BadCount = Unit {0}
ShowsUnmet s (InPlace f test) (why.Place m phase) = (m ≡ f) × (s.phases f ≡ phase)
    × ((t : State) → t.phases f ≡ phase → is_in_place t f test ≡ false)
ShowsUnmet s (InPlace f (Passable cpu)) (why.NotFirst m p) = (m ≡ f) × (p ≡ cpu)
    × (has_as ListFrame cpu (s.phases f) ≡ true)
    × (front_of (s.parts cpu).list ≢ f)
ShowsUnmet s (InPlace f Returnable) (why.Unkilled m g) = (m ≡ f) × ((k : ℕ)
    × (s.phases f ≡ Head (record { group = g; order = k }) Collected)) × (s.killed g ≡ false)
ShowsUnmet s (TakesFill cpu g) (why.Number q n) = (q ≡ InStock cpu) × ((s.parts cpu).stock.pages ≡ n) × (1 ≤ n)
ShowsUnmet s (TakesFill cpu g) (why.Book p other) = (p ≡ cpu) × ((s.parts cpu).stock.group ≡ other)
    × ((s.parts cpu).stock.pages ≡ 0) × (1 ≤ (s.parts cpu).book) × (other ≢ Some g)
ShowsUnmet s (NotKilled g) (why.Killed m) = m ≡ g
ShowsUnmet s (NotRoot g) why.Root = g ≡ 0
ShowsUnmet s (NoChild g) (why.Child m) = m ≡ g
ShowsUnmet s (Makeable path) (why.Refused fault) = make_fault s.groups path ≡ Some fault
ShowsUnmet s condition reason = ⊥

-- the first condition of the step that isn't met, which each legal step of this kind meets, and the reason says why
pub record Fails (s : State) (seat : ℕ) (action : Action) (reason : Reason) : Type 0 where
  pub condition : Condition
  pub first : first_unmet s (conditions_of seat action) ≡ Some condition
  pub needed : (t : State) → is_legal t seat action ≡ true → is_met t condition ≡ true
  pub shown : ShowsUnmet s condition reason

-- one of the two answers is that a page pays, and the other that the stock has none
abbrev pub TurnsOnPages : (answer due : Answer) → Type 0
TurnsOnPages Took Empty = Unit {0}
TurnsOnPages Empty Took = Unit {0}
TurnsOnPages answer due = ⊥

-- the reason says how many pages the CPU's stock has, if the answer turns on them, and else what stock it is
abbrev pub SaysStock : State → ℕ → (answer due : Answer) → Reason → Type 0
SaysStock s cpu answer due (why.Number q n) = (q ≡ InStock cpu) × ((s.parts cpu).stock.pages ≡ n) × TurnsOnPages answer due
SaysStock s cpu answer due (why.Stock p of drained) = (p ≡ cpu) × ((s.parts cpu).stock.group ≡ of)
    × ((s.parts cpu).stock.is_drained ≡ drained) × (¬ TurnsOnPages answer due)
SaysStock s cpu answer due reason = ⊥

-- the reason says the path, the usage and the limit of the group, and the pages for which it has no room
abbrev pub IsNoRoom : State → ℕ → ℕ → Reason → Type 0
IsNoRoom s m n (why.NoRoom path usage pages limit) = (path_of s.groups m ≡ Some path) × (usage_of s m ≡ usage) × (pages ≡ n)
    × (limit_of s.groups m ≡ Some limit)
IsNoRoom s m n reason = ⊥

-- the reason says which group on the path from this one up is the lowest without room, or that each has room
abbrev pub SaysRoom : State → ℕ → ℕ → Reason → Type 0
SaysRoom s g n (why.Room m pages) = (m ≡ g) × (pages ≡ n) × PathHasRoom s.groups (usage_of s) g n
SaysRoom s g n reason = (m : ℕ) × IsLowestOver s.groups (usage_of s) g n m × IsNoRoom s m n reason

-- The reason says why this block can't be placed. If the zone has such a block of the order, it says what the block's
-- first frame that isn't free is.
abbrev pub DeniesClaim : State → ℕ → Block → Reason → Type 0
DeniesClaim s k b (why.OtherOrder order) = (order ≡ k) × (b.order ≢ k)
DeniesClaim s k b (why.NoBlock c) = (c ≡ b) × (b.order ≡ k) × (¬ IsBlock s.zone.frames b)
DeniesClaim s k b (why.Place f phase) = (s.phases f ≡ phase) × (is_free phase ≡ false) × (b.order ≡ k)
    × IsBlock s.zone.frames b × Covers b f × ((e : ℕ) → Covers b e → e < f → is_free (s.phases e) ≡ true)
DeniesClaim s k b reason = ⊥

-- the reason says that the block which is due is free, or that no block of the order is
abbrev pub SaysFreeBlock : State → ℕ → Answer → Reason → Type 0
SaysFreeBlock s k due (why.FreeBlock b) = due ≡ Placed b
SaysFreeBlock s k due (why.NoFreeBlock order) = (order ≡ k)
    × ((b : Block) → b.order ≡ k → ¬ IsFreeBlock (free_in s.zone s.phases) b)
SaysFreeBlock s k due reason = ⊥

-- the reason says the least number that no group has
abbrev pub SaysNumber : State → Reason → Type 0
SaysNumber s (why.LeastNumber m) = IsLeastFreeNumber s.groups m
SaysNumber s reason = ⊥

-- each answer to the step, in any state, is Done
abbrev pub HasOnlyDone : ℕ → Action → Type 0
HasOnlyDone seat action = (t : State) (answer : Answer) → IsAnswer t seat action answer → answer ≡ Done

-- the reason says what decides the answer to the step, if it may be made; of a claimed block, why it can't be placed
abbrev pub Decides : State → ℕ → Action → (answer due : Answer) → Reason → Type 0
Decides s seat (Get f) answer due (why.Number q n) = (q ≡ References f) × (live_references s f ≡ n)
Decides s seat (Put f) answer due (why.Number q n) = (q ≡ References f) × (live_references s f ≡ n)
Decides s seat (Freeze f k) answer due (why.Number q n) = (q ≡ References f) × (live_references s f ≡ n)
Decides s seat (Consume g) answer due reason = SaysStock s seat answer due reason
Decides s seat (Credit f) answer due (why.Stock p of drained) = (p ≡ seat) × ((s.parts seat).stock.group ≡ of)
    × ((s.parts seat).stock.is_drained ≡ drained)
Decides s seat (Absorb p) answer due (why.Number q n) = (q ≡ Reported p) × ((s.parts p).reported ≡ n)
Decides s seat (DrainStock p) answer due (why.Number q n) = (q ≡ InStock p) × ((s.parts p).stock.pages ≡ n)
Decides s seat (Grant g n) answer due reason = SaysRoom s g n reason
Decides s seat (PlaceBlock g k) (Placed b) due reason = DeniesClaim s k b reason
Decides s seat (PlaceBlock g k) answer due reason = SaysFreeBlock s k due reason
Decides s seat (Make path) answer due reason = SaysNumber s reason
Decides s seat action answer due why.OnlyDone = HasOnlyDone seat action
Decides s seat action answer due reason = ⊥

-- Why the step isn't legal with this answer, if that one is due. It may be made, and was answered `illegal`; or a
-- condition isn't met; or the reason says what decides the answer.
pub record IsReason (s : State) (step : Step) (answer due : Answer) (reason : Reason) : Type 0 where
  pub may : answer ≡ Illegal → (reason ≡ why.MayBeMade) × (is_legal s step.seat step.action ≡ true)
  pub fails : answer ≢ Illegal → due ≡ Illegal → Fails s step.seat step.action reason
  pub decides : answer ≢ Illegal → due ≢ Illegal → Decides s step.seat step.action answer due reason
