-- What each request does to a live boot.
use Rattle.std.specs.Prelude.{◌≡◌, [], Option, None, Some}
use Rattle.zone_blocks.specs.declared.config.Config.{Config}
use Rattle.boot_words.specs.Tables.{KnownTable}
use Rattle.host_memory.specs.{OnKnown}
use Rattle.load_run.specs.{IsNewBootState, EndsHeld}
use Rattle.load_run.specs.declared.boot_end.BootEnd.{BootEnd}
use Rattle.tempolemon_c.specs.Known.{KnownLive}
use Rattle.tempolemon_c.specs.Commands.{AnswersScript, RefusesScript, RunsOut, TakesUnreadAnswer, with_unread_answer}
use Rattle.tempolemon_c.specs.declared.requests.Request.{Request}
use Rattle.tempolemon_c.specs.declared.requests.Request.TheVariants.{Start, Lines, StoreUnread, TakeUnread, End}
use Rattle.tempolemon_c.specs.declared.requests.RequestAnswer.{RequestAnswer}
use Rattle.tempolemon_c.specs.declared.requests.RequestAnswer.TheVariants as returned

-- the table after a request: a start brings its own, else it stays
abbrev pub frames_after_request : KnownTable → Request → KnownTable
frames_after_request frames (Start alloc boot sizes) = boot.table
frames_after_request frames (Lines alloc text is_explained) = frames
frames_after_request frames (StoreUnread text) = frames
frames_after_request frames (TakeUnread alloc) = frames
frames_after_request frames (End alloc) = frames

-- what may be asked: a start if there is no boot, and the boot has the sizes that are named; all else if there is one
abbrev pub IsFit : Option KnownLive → Request → Type 0
IsFit None (Start alloc boot sizes) = boot.sizes ≡ sizes
IsFit None (Lines alloc text is_explained) = ⊥
IsFit None (StoreUnread text) = ⊥
IsFit None (TakeUnread alloc) = ⊥
IsFit None (End alloc) = ⊥
IsFit (Some live) (Start alloc boot sizes) = ⊥
IsFit (Some live) (Lines alloc text is_explained) = Unit {0}
IsFit (Some live) (StoreUnread text) = Unit {0}
IsFit (Some live) (TakeUnread alloc) = Unit {0}
IsFit (Some live) (End alloc) = Unit {0}

-- a boot of these sizes stands as at first, and no answer is unread
pub record StartsBoot (frames : KnownTable) (sizes : Config) (after : Option KnownLive) : Type 0 where
  pub live : KnownLive
  pub is : after ≡ Some live
  pub first : IsNewBootState sizes frames live.state
  pub sizes_are : live.sizes ≡ sizes
  pub none_unread : live.unread_answer ≡ []

-- the boot ended, with this report
pub record EndsLive (frames : KnownTable) (before after : Option KnownLive) (ended : BootEnd) : Type 0 where
  pub from : KnownLive
  pub was : before ≡ Some from
  pub is : after ≡ None
  pub ends : EndsHeld frames from.state ended

-- What a request does under the name of this table, and what is answered
abbrev pub ServesRequest : KnownTable → (before : Option KnownLive) (request : Request) (after : Option KnownLive)
    (answer : RequestAnswer) → Type 0
ServesRequest frames before (Start alloc boot sizes) after returned.Done =
    StartsBoot frames sizes after
ServesRequest frames before (Start alloc boot sizes) after returned.NoMemory = after ≡ None
ServesRequest frames before (Lines alloc text is_explained) after (returned.Text answers) =
    OnKnown (AnswersScript frames text.items is_explained answers.items) before after
ServesRequest frames before (Lines alloc text is_explained) after (returned.BadLine number) =
    OnKnown (RefusesScript text.items number) before after
ServesRequest frames before (Lines alloc text is_explained) after returned.NoMemory =
    OnKnown (RunsOut frames text.items is_explained) before after
ServesRequest frames before (StoreUnread text) after returned.Done =
    OnKnown (λ from to. to ≡ with_unread_answer from text.items) before after
ServesRequest frames before (TakeUnread alloc) after (returned.Text text) =
    OnKnown (λ from to. TakesUnreadAnswer from to text.items) before after
ServesRequest frames before (End alloc) after (returned.Ended ended) =
    EndsLive frames before after ended
ServesRequest frames before request after answer = ⊥

-- what a request does, with the table before and after it
pub record ServesRaw (old_frames : KnownTable) (before : Option KnownLive) (request : Request)
    (frames : KnownTable) (after : Option KnownLive) (answer : RequestAnswer) : Type 0 where
  pub frames_are : frames ≡ frames_after_request old_frames request
  pub serves : ServesRequest frames before request after answer
