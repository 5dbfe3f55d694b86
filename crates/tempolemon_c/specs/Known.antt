-- What contracts see of a boot that lives between calls.
use Rattle.std.specs.Prelude.{ℕ, List}
use Rattle.zone_blocks.specs.declared.config.Config.{Config}
use Rattle.script_replay.specs.Lines.{SystemState}

-- a boot between calls: its sizes, what lies behind the lock and the CPUs' parts, and a text that waits for a buffer
pub record KnownLive : Type 0 where
  pub sizes : Config
  pub state : SystemState
  pub unread_answer : List ℕ
