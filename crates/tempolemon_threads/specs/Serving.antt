-- What each request does to what a handle leads to.
use Rattle.std.specs.Prelude.{◌≡◌, Option, None, Some, IsSomeAnd}
use Rattle.zone_blocks.specs.declared.config.Config.{Config}
use Rattle.boot_words.specs.Tables.{KnownTable}
use Rattle.mem_system.specs.EndsWithPins.{HasEnded}
use Rattle.zone_threads.specs.{HasCpu, HasNoCpu, IfNotEntered, KnownHome, TakesCpu, ReadsText}
use Rattle.zone_threads.specs.declared.home.NotLeft.TheVariants as not_left
use Rattle.host_memory.specs.{OnKnown}
use Rattle.tempolemon_threads.specs.declared.requests.Request.{Request}
use Rattle.tempolemon_threads.specs.declared.requests.Request.TheVariants.{Start, Enter, Leave, Text, End}
use Rattle.tempolemon_threads.specs.declared.requests.RequestAnswer.{RequestAnswer}
use Rattle.tempolemon_threads.specs.declared.requests.RequestAnswer.TheVariants as returned
use Rattle.tempolemon_threads.specs.declared.requests.Forked.{Forked}
use Rattle.tempolemon_threads.specs.declared.requests.Forked.TheVariants as forked

-- the table after a request: a start brings its own, else it stays
abbrev pub home_frames_after : KnownTable → Request → KnownTable
home_frames_after frames (Start alloc boot) = boot.table
home_frames_after frames (Enter number) = frames
home_frames_after frames (Leave alloc) = frames
home_frames_after frames (Text alloc asked) = frames
home_frames_after frames (End alloc) = frames

-- what may be asked: a start if there is no home, a text of a CPU, an end without one, and all else if there is a home
abbrev pub IsFitForHome : Option KnownHome → Request → Type 0
IsFitForHome None (Start alloc boot) = Unit {0}
IsFitForHome None (Enter number) = ⊥
IsFitForHome None (Leave alloc) = ⊥
IsFitForHome None (Text alloc asked) = ⊥
IsFitForHome None (End alloc) = ⊥
IsFitForHome (Some home) (Start alloc boot) = ⊥
IsFitForHome (Some home) (Enter number) = Unit {0}
IsFitForHome (Some home) (Leave alloc) = Unit {0}
IsFitForHome (Some home) (Text alloc asked) = HasCpu home
IsFitForHome (Some home) (End alloc) = HasNoCpu home

-- there is a home now, of a boot of these sizes, without a CPU
pub record StartsHome (sizes : Config) (after : Option KnownHome) : Type 0 where
  pub home : KnownHome
  pub is : after ≡ Some home
  pub no_cpu : HasNoCpu home
  pub sizes_are : home.sizes ≡ sizes

-- the home had a CPU, and the pointer leads nowhere
pub record LeavesHome (before after : Option KnownHome) : Type 0 where
  pub from : KnownHome
  pub was : before ≡ Some from
  pub cpu : HasCpu from
  pub is : after ≡ None

-- the home had no CPU, and the pointer leads nowhere
pub record DropsHome (before after : Option KnownHome) : Type 0 where
  pub from : KnownHome
  pub was : before ≡ Some from
  pub none : HasNoCpu from
  pub is : after ≡ None

-- what a request does under the name of this table, by its answer
abbrev pub ServesHomeRequest : KnownTable → (before : Option KnownHome) (request : Request)
    (after : Option KnownHome) (answer : RequestAnswer) → Type 0
ServesHomeRequest frames before (Start alloc boot) after returned.Started = StartsHome boot.sizes after
ServesHomeRequest frames before (Start alloc boot) after returned.NoMemory = after ≡ None
ServesHomeRequest frames before (Enter number) after returned.Entered =
    OnKnown (TakesCpu number) before after
ServesHomeRequest frames before (Enter number) after (returned.NotEntered reason) =
    OnKnown (λ from to. IfNotEntered frames.cpus number from reason to) before after
ServesHomeRequest frames before (Leave alloc) after (returned.Left shown) =
    LeavesHome before after
ServesHomeRequest frames before (Leave alloc) after (returned.NotLeft not_left.NoCpu) =
    DropsHome before after
ServesHomeRequest frames before (Leave alloc) after (returned.NotLeft not_left.Busy) =
    IsSomeAnd before HasCpu × (after ≡ before)
ServesHomeRequest frames before (Text alloc asked) after (returned.Text text) =
    OnKnown (ReadsText frames asked text) before after
ServesHomeRequest frames before (Text alloc asked) after returned.Busy = after ≡ before
ServesHomeRequest frames before (End alloc) after returned.Out = after ≡ before
ServesHomeRequest frames before (End alloc) after (returned.Ended ended) =
    HasEnded frames ended × (after ≡ None)
ServesHomeRequest frames before (End alloc) after returned.NoMemory = after ≡ None
ServesHomeRequest frames before (End alloc) after returned.Lost = after ≡ None
ServesHomeRequest frames before request after answer = ⊥

-- what a request does, with the table before and after it
pub record ServesRawHome (old_frames : KnownTable) (before : Option KnownHome) (request : Request)
    (frames : KnownTable) (after : Option KnownHome) (answer : RequestAnswer) : Type 0 where
  pub frames_are : frames ≡ home_frames_after old_frames request
  pub serves : ServesHomeRequest frames before request after answer

-- the home is of the same sizes as the first, without a CPU
pub record IsSecond (first : Option KnownHome) (home : KnownHome) : Type 0 where
  pub from : KnownHome
  pub was : first ≡ Some from
  pub no_cpu : HasNoCpu home
  pub sizes : home.sizes ≡ from.sizes

-- there is a second home; or there is none
abbrev pub IsForked : (first second : Option KnownHome) → Forked → Type 0
IsForked first (Some home) forked.Done = IsSecond first home
IsForked first None forked.NoMemory = Unit {0}
IsForked first home other = ⊥

-- the first home stays, and a second is as answered
pub record Forks (before first second : Option KnownHome) (answer : Forked) : Type 0 where
  pub first_stays : first ≡ before
  pub second_is : IsForked before second answer

-- the same, and both are of the table
pub record ForksRaw (old_frames : KnownTable) (before : Option KnownHome) (frames : KnownTable)
    (first : Option KnownHome) (second_frames : KnownTable) (second : Option KnownHome) (answer : Forked) : Type 0 where
  pub frames_are : frames ≡ old_frames
  pub second_frames_are : second_frames ≡ old_frames
  pub forks : Forks before first second answer
