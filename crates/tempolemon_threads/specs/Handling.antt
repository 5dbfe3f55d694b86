-- What is done with what a handle leads to.
use Rattle.std.specs.Prelude.{◌≡◌, ℕ, Option, None, Some, IsSome}
use Rattle.boot_words.specs.Tables.{KnownTable}
use Rattle.mem_system.specs.EndsWithPins.{HasEnded}
use Rattle.zone_threads.specs.Homes.{HasNoCpu, IsCpu, KnownHome}
use Rattle.zone_threads.specs.declared.home.NotEntered.{NotEntered}
use Rattle.zone_threads.specs.declared.home.NotEntered.TheVariants as not_entered
use Rattle.tempolemon_threads.specs.declared.requests.Forked.{Forked}
use Rattle.tempolemon_threads.specs.declared.requests.Forked.TheVariants as forked
use Rattle.tempolemon_threads.specs.declared.requests.RequestAnswer.{RequestAnswer}
use Rattle.tempolemon_threads.specs.declared.requests.RequestAnswer.TheVariants as returned
use Rattle.host_memory.specs.{led}
use Rattle.tempolemon_threads.specs.Handles.{LedHome}

-- a second pointer leads to the same zone, without a CPU
pub record ForksTo (zone : Option LedHome) (frames : KnownTable) (home : Option KnownHome)
    : Type 0 where
  pub first : KnownHome
  pub second : KnownHome
  pub zone_is : zone ≡ Some (led frames first)
  pub home_is : home ≡ Some second
  pub no_cpu : HasNoCpu second
  pub sizes : second.sizes ≡ first.sizes

-- Done: the second handle leads to the same zone and has no CPU. NoMemory: there is no second handle.
abbrev pub ForksAs : Forked → (zone : Option LedHome) → (frames : KnownTable) → (second : Option KnownHome) → Type 0
ForksAs forked.Done zone frames second = ForksTo zone frames second
ForksAs forked.NoMemory _ frames second = second ≡ None

-- what is so, if an entry by a pointer to this table took no CPU
abbrev pub EntersNone : (number : ℕ) → NotEntered → KnownTable → (after : Option LedHome) → Type 0
EntersNone number not_entered.NoCpu frames after = (¬ IsCpu frames.cpus number) × (after ≡ None)
EntersNone number not_entered.HasCpu frames after = ⊥
EntersNone number other frames after = IsCpu frames.cpus number × (after ≡ None)

-- the zone ended
pub record EndsLed (before after : Option LedHome) (ends : KnownTable → Type 0) : Type 0 where
  pub zone : LedHome
  pub was : before ≡ Some zone
  pub done : ends zone.frames
  pub is : after ≡ None

-- what an end does
abbrev pub EndsAs : RequestAnswer → (before after : Option LedHome) → Type 0
EndsAs returned.Out before after = after ≡ before
EndsAs (returned.Ended ended) before after = EndsLed before after (λ frames. HasEnded frames ended)
EndsAs returned.NoMemory before after = after ≡ None
EndsAs returned.Lost before after = after ≡ None
EndsAs other before after = ⊥
