-- What a pointer to a home owns.
use Rattle.std.specs.Prelude.{Option}
use base.Fml.{Fml}
use base.Stored.{Coded}
use denote.RattleType.{RattleType}
use denote.RawPtr.{Ptr}
use Rattle.std.specs.Coded.{coded_option}
use Rattle.std.specs.Global.{Global}
use Rattle.boot_words.specs.Tables.{KnownTable}
use Rattle.host_memory.specs.{brand, pointer_owns}
use Rattle.zone_threads.specs.Homes.{KnownHome}
use Rattle.zone_threads.specs.contracts.home.Home as Home
use Rattle.zone_threads.specs.declared.home.Home as Known

-- a home of this table, under a name
abbrev pub home_row : RattleType → KnownTable → RattleType
home_row name frames = Home.the_row name (record { table = frames })

-- how a home is stored, if there is one
abbrev pub home_coded : Coded (Option KnownHome)
home_coded = coded_option (Known.the_code brand.Denot brand.coded)

-- a pointer to a home of this table owns it, if there is one
abbrev pub home_owns : RattleType → KnownTable → Global → Ptr → Option KnownHome → Fml
home_owns name frames alloc ptr home = pointer_owns (home_row name frames) alloc ptr home
