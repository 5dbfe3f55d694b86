-- What a request does to the boot behind a handle, if it neither starts nor ends one.
use Rattle.std.specs.Prelude.{Option, Some}
use Rattle.tempolemon_c.specs.declared.requests.Request.{Request}
use Rattle.tempolemon_c.specs.declared.requests.Request.TheVariants.{Start, Lines, StoreUnread, TakeUnread, End}
use Rattle.tempolemon_c.specs.declared.requests.RequestAnswer.{RequestAnswer}
use Rattle.tempolemon_c.specs.Serving.{ServesRequest}
use Rattle.host_memory.specs.{OnHandle}
use Rattle.tempolemon_c.specs.Handles.{LiveBoot}

-- the request neither starts nor ends a boot
abbrev pub IsBetween : Request → Type 0
IsBetween (Start alloc boot sizes) = ⊥
IsBetween (Lines alloc text is_explained) = Unit {0}
IsBetween (StoreUnread text) = Unit {0}
IsBetween (TakeUnread alloc) = Unit {0}
IsBetween (End alloc) = ⊥

-- the request was served with this answer
abbrev pub AsksBehind : Request → (before after : Option LiveBoot) → RequestAnswer → Type 0
AsksBehind request before after answer =
    OnHandle (λ frames from to. ServesRequest frames (Some from) request (Some to) answer) before after
