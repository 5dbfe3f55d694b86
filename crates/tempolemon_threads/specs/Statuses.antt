-- The statuses that only calls of this library have, as the header numbers them, and those of each kind of call.
use Rattle.std.specs.Prelude.{ℕ, [], ◌∷◌, Contains}
use Rattle.host_memory.specs.Statuses.{bad_config, bad_cpu, bad_version, done, is_live, no_memory, not_live}

-- another thread has the lock
abbrev pub busy : ℕ
busy = 109

-- another handle has this CPU
abbrev pub cpu_out : ℕ
cpu_out = 110

-- a CPU of the zone isn't returned
abbrev pub cpus_out : ℕ
cpus_out = 111

-- a part of the zone wasn't there
abbrev pub lost : ℕ
lost = 112

-- the statuses with which a boot is answered
abbrev pub IsZoneBootStatus : ℕ → Type 0
IsZoneBootStatus status = Contains (done ∷ bad_config ∷ no_memory ∷ is_live ∷ bad_version ∷ []) status

-- the statuses with which an end is answered
abbrev pub IsZoneEndStatus : ℕ → Type 0
IsZoneEndStatus status = Contains (done ∷ not_live ∷ cpus_out ∷ no_memory ∷ lost ∷ []) status

-- the statuses with which a take is answered
abbrev pub IsTakeStatus : ℕ → Type 0
IsTakeStatus status = Contains (done ∷ not_live ∷ is_live ∷ bad_cpu ∷ cpu_out ∷ no_memory ∷ busy ∷ []) status

-- the statuses with which a return is answered
abbrev pub IsReturnStatus : ℕ → Type 0
IsReturnStatus status = Contains (done ∷ not_live ∷ busy ∷ []) status
