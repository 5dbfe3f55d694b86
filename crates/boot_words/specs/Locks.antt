-- Lock and Unlock: a CPU's past is joined with the zone's, and parted from it.
use Rattle.std.specs.Prelude.{◌≡◌, true}
use Rattle.step_rules.specs.{Zone, is_unheld, Run, state_of, IsLegalRun}
use Rattle.boot_words.specs.Hidden.{hide}
use Rattle.boot_words.specs.declared.past.Past.{Past}
use Rattle.boot_words.specs.Rule.{IsPastOf}

-- by this past the lock is free
abbrev pub LeavesFree : Zone → Past → Type 0
LeavesFree zone z = is_unheld (state_of zone z.seen).hold ≡ true

-- While nobody holds the lock, all steps are fast ones of CPUs. So what is left if every CPU's own part is hidden is as
-- the zone's past left it.
abbrev pub ZoneRests : Type 0
ZoneRests = (zone : Zone) (run : Run) (z : Past) → IsLegalRun zone run → IsPastOf run z → z.number ≡ 0
    → LeavesFree zone z → hide (state_of zone run) ≡ hide (state_of zone z.seen)
