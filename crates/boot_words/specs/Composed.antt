-- Several steps of the run that one atomic step makes under the lock: the table of these lists, and what each leaves.
use Rattle.std.specs.Prelude.{[], ◌≡◌, ℕ, true, ◌∷◌}
use Rattle.step_rules.specs.declared.step.Step.{Step}
use Rattle.step_rules.specs.declared.step.Action.{Action}
use Rattle.step_rules.specs.declared.step.Action.TheVariants.{PassOut, TakeIn, Absorb, Collect, PassBack, Report}
use Rattle.step_rules.specs.declared.step.Answer.{Answer}
use Rattle.step_rules.specs.declared.step.Answer.TheVariants.{Done, Pages}
use Rattle.step_rules.specs.{Zone, is_legal, Run, after, zone_makes, cpu_makes}
use Rattle.step_rules.specs.State.{State}
use Rattle.boot_words.specs.declared.past.Past.{Past}
use Rattle.boot_words.specs.Runs.{GrewBy}
use Rattle.boot_words.specs.Held.{HoldsLock, local_seen}
use Rattle.boot_words.specs.Pasts.{KnownPasts, IsHeld, cpu_past, own_past}
use Rattle.boot_words.specs.Seats.{zone_of_boot}
use Rattle.boot_words.specs.Tables.{KnownTable}

-- ---- the table: the steps of each list, in their order

-- a frame of the zone's hand is lent to the CPU: its word is 0 before and after, so no word changes
abbrev pub lend_run : ℕ → ℕ → Run
lend_run cpu f = zone_makes (PassOut f cpu) Done ∷ cpu_makes cpu (TakeIn f) Done ∷ []

-- ---- what each list requires and leaves

-- each step is legal after those before it with their answers
abbrev pub AreLegal : State → Run → Type 0
AreLegal s [] = Unit {0}
AreLegal s (made ∷ rest) = (is_legal s made.0.seat made.0.action ≡ true)
    × AreLegal (after s made.0.seat made.0.action made.1) rest

-- both pasts have grown by the step, and the lock's holder sees what the step makes of what it saw
pub record GrewUnderLock (zone : Zone) (z c : Past) (made : Step × Answer) (z' c' : Past) : Type 0 where
  pub zone_grew : GrewBy z made.0 made.1 z'
  pub cpu_grew : GrewBy c made.0 made.1 c'
  pub holds : HoldsLock zone z' c' (local_seen zone c')
  pub local_is : local_seen zone c' ≡ after (local_seen zone c) made.0.seat made.0.action made.1

-- both pasts have grown by these steps, one after the other
abbrev pub GrewInTurn : Zone → Past → Past → Run → Past → Past → Type 0
GrewInTurn zone z c [] z' c' = (z' ≡ z) × (c' ≡ c)
GrewInTurn zone z c (made ∷ rest) z' c' =
    (x : Past) × (y : Past) × GrewUnderLock zone z c made x y × GrewInTurn zone x y rest z' c'

-- these steps were made under the lock, one after the other
pub record MakesInTurn (t : KnownTable) (s : KnownPasts) (steps : Run) (s' : KnownPasts) : Type 0 where
  pub held : IsHeld t s'
  pub grew : GrewInTurn (zone_of_boot t) (own_past s) (cpu_past s) steps (own_past s') (cpu_past s')

-- The CPU passes back a fresh frame and reports its page; the zone collects the frame and absorbs the page. The frame's
-- word and the report word are 0 before and after, so no word changes.
abbrev pub take_back_run : ℕ → ℕ → Run
take_back_run cpu f = cpu_makes cpu (PassBack f) Done ∷ cpu_makes cpu (Report 1) Done ∷ zone_makes (Collect f cpu) Done
    ∷ zone_makes (Absorb cpu) (Pages 1) ∷ []
