-- What a pointer to the parts of a boot owns.
use Rattle.std.specs.Prelude.{Option}
use base.Fml.{Fml}
use base.Stored.{Coded}
use denote.RattleType.{RattleType}
use denote.RawPtr.{Ptr}
use Rattle.std.specs.Coded.{coded_option}
use Rattle.std.specs.Global.{Global}
use Rattle.boot_words.specs.Tables.{KnownTable}
use Rattle.host_memory.specs.{brand, pointer_owns}
use Rattle.tempolemon_c.specs.Known.{KnownLive}
use Rattle.tempolemon_c.specs.contracts.live.Live as Live
use Rattle.tempolemon_c.specs.declared.live.Live as Known

-- the parts of a boot of this table, under a name
abbrev pub live_row : RattleType → KnownTable → RattleType
live_row name frames = Live.the_row name (record { table = frames })

-- how the parts of a boot are stored, if there are any
abbrev pub known_coded : Coded (Option KnownLive)
known_coded = coded_option (Known.the_code brand.Denot brand.coded)

-- a pointer to the parts of a boot of this table owns them, if there are any
abbrev pub live_owns : RattleType → KnownTable → Global → Ptr → Option KnownLive → Fml
live_owns name frames alloc ptr live = pointer_owns (live_row name frames) alloc ptr live
