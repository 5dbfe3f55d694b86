-- Who makes a step; each step has an answer; the table leaves only the placed block open.
use Rattle.std.specs.Prelude.{◌≡◌, ◌≢◌, ◌⊎◌, ◌||◌, ℕ, true}
use Rattle.zone_blocks.specs.declared.block.Block.{Block}
use Rattle.step_rules.specs.declared.step.Action.{Action}
use Rattle.step_rules.specs.declared.step.Answer.{Answer}
use Rattle.step_rules.specs.declared.step.Answer.TheVariants.{Illegal, Placed}
use Rattle.step_rules.specs.State.{Zone, is_cpu, may_zone_act}
use Rattle.step_rules.specs.Legal.{Allows}
use Rattle.step_rules.specs.After.{Run, state_of, IsLegalRun}

-- after every legal run a step that isn't answered Illegal is made by a CPU, or by the zone's seat while a CPU holds
-- the lock
abbrev pub OnlySeatsAct : Type 0
OnlySeatsAct = (zone : Zone) (run : Run) → IsLegalRun zone run → (seat : ℕ) (action : Action) (answer : Answer)
    → Allows (state_of zone run) seat action answer → answer ≢ Illegal
    → (is_cpu zone seat || may_zone_act (state_of zone run).hold seat) ≡ true

-- the answer is that a block was placed
abbrev pub IsPlacing : Answer → Type 0
IsPlacing answer = (b : Block) × (answer ≡ Placed b)

-- after every legal run any two allowed answers of a step are the same, or both place a block
abbrev pub AnswersAreDetermined : Type 0
AnswersAreDetermined = (zone : Zone) (run : Run) → IsLegalRun zone run
    → (seat : ℕ) (action : Action) (one other : Answer)
    → Allows (state_of zone run) seat action one → Allows (state_of zone run) seat action other
    → (one ≡ other) ⊎ (IsPlacing one × IsPlacing other)

-- after every legal run each step has an allowed answer; so every list of steps, answered one after the other, makes a
-- legal run
abbrev pub EveryStepIsAnswered : Type 0
EveryStepIsAnswered = (zone : Zone) (run : Run) → IsLegalRun zone run → (seat : ℕ) (action : Action)
    → (answer : Answer) × Allows (state_of zone run) seat action answer
