-- How many units ended, were freed, or were missed.
use Rattle.std.specs.Prelude.{◌≡◌, ◌+◌, min}
use Rattle.group_tree.specs.Room.{max_count, one_more}
use Rattle.mem_machine.specs.declared.counts.Counts.{Counts}

-- all counts are 0
abbrev pub no_counts : Counts
no_counts = record { last_puts = 0; freezes = 0; killed_fresh = 0; returns = 0; misses = 0 }

-- the units freed are the last puts, the freezes and the killed fresh frames together, or the greatest count if that
-- is less
abbrev pub BalancesCounts : Counts → Type 0
BalancesCounts counts = counts.returns ≡ min (counts.last_puts + counts.freezes + counts.killed_fresh) max_count

-- one more unit freed after its last reference was put
abbrev pub with_last_put : Counts → Counts
with_last_put counts = record counts { last_puts = one_more counts.last_puts; returns = one_more counts.returns }

-- one more unit frozen and freed
abbrev pub with_freeze : Counts → Counts
with_freeze counts = record counts { freezes = one_more counts.freezes; returns = one_more counts.returns }

-- one more fresh frame of a killed group that was freed
abbrev pub with_killed_fresh : Counts → Counts
with_killed_fresh counts =
    record counts { killed_fresh = one_more counts.killed_fresh; returns = one_more counts.returns }

-- one more unit missed
abbrev pub with_miss : Counts → Counts
with_miss counts = record counts { misses = one_more counts.misses }
