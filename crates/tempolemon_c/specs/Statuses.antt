-- The status that only calls of this library have, as the header numbers it, and those of each kind of call.
use Rattle.std.specs.Prelude.{ℕ, [], ◌∷◌, Contains}
use Rattle.host_memory.specs.Statuses.{bad_config, bad_cpu, bad_frame, bad_group, bad_version, done, is_live, no_memory, not_live, small_buffer}

-- a line of the script isn't in the grammar
abbrev pub bad_line : ℕ
bad_line = 102

-- the statuses with which a replay ends
abbrev pub IsReplayStatus : ℕ → Type 0
IsReplayStatus status = Contains (done ∷ bad_config ∷ no_memory ∷ bad_line ∷ small_buffer ∷ bad_version ∷ []) status

-- the greatest number of a refusal
abbrev pub most_refusal : ℕ
most_refusal = 22

-- the statuses with which a boot is answered
abbrev pub IsBootStatus : ℕ → Type 0
IsBootStatus status = Contains (done ∷ bad_config ∷ no_memory ∷ is_live ∷ bad_version ∷ []) status

-- the statuses with which an end is answered
abbrev pub IsEndStatus : ℕ → Type 0
IsEndStatus status = Contains (done ∷ not_live ∷ []) status

-- the statuses with which lines of a script are answered
abbrev pub IsLinesStatus : ℕ → Type 0
IsLinesStatus status = Contains (done ∷ no_memory ∷ bad_line ∷ small_buffer ∷ not_live ∷ []) status

-- the statuses with which an unread answer is fetched
abbrev pub IsAnswerStatus : ℕ → Type 0
IsAnswerStatus status = Contains (done ∷ small_buffer ∷ not_live ∷ []) status

-- the statuses of a typed call that wasn't served; they are above the refusals' numbers
abbrev pub IsNotServedStatus : ℕ → Type 0
IsNotServedStatus status = Contains (not_live ∷ bad_cpu ∷ bad_frame ∷ bad_group ∷ []) status
