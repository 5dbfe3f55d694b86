-- What contracts see of the fields behind the zone's lock, and what always holds of them.
use Rattle.std.specs.Prelude.{length}
use Rattle.std.specs.Vec.{vec_capacity}
use Rattle.boot_words.specs.Tables.{KnownTable}
use Rattle.mem_system.specs.declared.lock.Locked.TheInside.{Inside}
use Rattle.mem_system.specs.Locked.{KnownLocked, IsEmptyWithRoom, IsQuiet}

-- what contracts see of these fields: all except the room for the CPUs' seats
abbrev pub locked_of : {N : Type 0} → Inside N → KnownLocked
locked_of fields = record { machine = fields.machine; sizes = fields.sizes }

-- while the lock is free, what lies behind it is quiet, with room for the seats of all CPUs, which are gathered at the
-- end
pub record IsSoundInside {N : Type 0} (table : KnownTable) (fields : Inside N)
    : Type 0 where
  pub quiet : IsQuiet table (locked_of fields)
  pub seats : IsEmptyWithRoom fields.sizes.cpus (length fields.seats.items) (vec_capacity fields.seats)
