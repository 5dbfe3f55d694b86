-- What a core guarantees over a run: the promise of `step_rules`, and which free block it places.
use Rattle.std.specs.Prelude.{◌≡◌, ℕ, true, List, take, slice_get, IfSome}
use Rattle.zone_blocks.specs.declared.block.Block.{Block}
use Rattle.zone_blocks.specs.Areas.{AreMaximalBlocks, IsFrontOfSmallest}
use Rattle.step_rules.specs.declared.step.Action.{Action}
use Rattle.step_rules.specs.declared.step.Action.TheVariants.{PlaceBlock}
use Rattle.step_rules.specs.declared.step.Answer.{Answer}
use Rattle.step_rules.specs.declared.step.Answer.TheVariants.{Placed}
use Rattle.step_rules.specs.{keeper_of, Zone, is_unheld, free_in, usage_of, Run, state_of, Shown, IsShown}
use Rattle.step_rules.specs.State.{State}
use Rattle.step_rules.specs.Promise.{Promise}
use Rattle.mem_core.specs.Shown.{CoreState, state_shown}

-- what a core shows, in the terms of the promise; `current` is what its reader of that name returns
abbrev pub core_shown : CoreState → Shown
core_shown s = record {
  areas = s.areas;
  lists = λ cpu. ((state_shown s).parts cpu).list;
  keeper = λ f. keeper_of ((state_shown s).phases f);
  groups = s.groups;
  stocks = λ cpu. ((state_shown s).parts cpu).stock;
  current = usage_of (state_shown s);
}

-- if the core's lock is free, the promise holds of what the core shows
abbrev pub CoreKeepsPromise : CoreState → Run → Type 0
CoreKeepsPromise s run = is_unheld s.hold ≡ true → Promise s.zone run (core_shown s)

-- after each beginning of the run that leaves the lock free, the promise holds of whatever shows the state
abbrev pub AlwaysKeepsPromise : Zone → Run → Type 0
AlwaysKeepsPromise zone run = (k : ℕ) → is_unheld (state_of zone (take k run)).hold ≡ true
    → (shown : Shown) → IsShown (state_of zone (take k run)) shown → Promise zone (take k run) shown

-- a placed block begins at the first frame of the smallest maximal free block of its order or above (Knuth: the least
-- sufficient order is split)
abbrev pub PlacesFrontIn : State → Action → Answer → Type 0
PlacesFrontIn s (PlaceBlock g k) (Placed b) = (areas : List Block) → AreMaximalBlocks (free_in s.zone s.phases) areas
    → IsFrontOfSmallest areas k b
PlacesFrontIn s action answer = Unit {0}

-- each step of the run that places a block places that one
abbrev pub AlwaysPlacesFirst : Zone → Run → Type 0
AlwaysPlacesFirst zone run = (k : ℕ)
    → IfSome (slice_get run k) (λ e. PlacesFrontIn (state_of zone (take k run)) e.0.action e.1)
