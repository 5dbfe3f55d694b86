-- What a CPU knows of its own lists after a step without the lock.
use Rattle.std.specs.Prelude.{◌≢◌}
use Rattle.step_rules.specs.declared.step.Action.{Action}
use Rattle.step_rules.specs.declared.step.Answer.{Answer}
use Rattle.step_rules.specs.{Zone, after, state_of}
use Rattle.boot_words.specs.Runs.{IsFast, GrewBy}
use Rattle.boot_words.specs.Sight.{HasSameLists}
use Rattle.boot_words.specs.declared.past.Past.{Past}

-- A CPU's step without the lock makes of its lists and references what it makes of those that its past left, whatever
-- others did since.
abbrev pub OwnPartFollows : Type 0
OwnPartFollows = (zone : Zone) (p : Past) (action : Action) (answer : Answer) (later : Past) → p.number ≢ 0
    → IsFast action → GrewBy p (record { seat = p.number; action = action }) answer later
    → HasSameLists p.number (after (state_of zone p.seen) p.number action answer) (state_of zone later.seen)
