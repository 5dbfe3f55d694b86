-- Which stores on a frame's word the rule of the one table allows under the lock, and what each adds to the run.
use Rattle.std.specs.Prelude.{◌≡◌, ◌≢◌, ℕ, ◌-◌, ◌==◌, if◌then◌else◌}
use Rattle.step_rules.specs.declared.step.Answer.{Answer}
use Rattle.step_rules.specs.declared.step.Answer.TheVariants.{Done, Missed, Left, Last}
use Rattle.step_rules.specs.{Zone, state_of, seen_by, ShowsLocal}
use Rattle.step_rules.specs.State.{State}
use Rattle.boot_words.specs.declared.past.Past.{Past}

-- A CPU holds the lock, and its past is joined with the zone's: both end with the last step of the two, after which the
-- run shows the CPU this local state.
pub record HoldsLock (zone : Zone) (z c : Past) (local : State) : Type 0 where
  pub zone_is : z.number ≡ 0
  pub cpu_is : c.number ≢ 0
  pub same : z.seen ≡ c.seen
  pub shows : ShowsLocal zone c.seen c.number local

-- what a CPU that holds the lock sees, by its past
abbrev pub local_seen : Zone → Past → State
local_seen zone c = seen_by c.number (state_of zone c.seen)

-- the answer of a freeze of n that finds this word
abbrev pub freeze_answer : ℕ → ℕ → Answer
freeze_answer n found = if found == n then Done else Missed

-- the answer of a put that finds this word
abbrev pub put_answer_at : ℕ → Answer
put_answer_at found = if found == 1 then Last else Left (found - 1)
