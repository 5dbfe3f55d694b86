-- The statuses that the calls of both libraries have, as the header numbers them.
use Rattle.std.specs.Prelude.{ℕ}

-- the call did what it is for
abbrev pub done : ℕ
done = 0

-- a size is out of its range; the number is that of the refusal
abbrev pub bad_config : ℕ
bad_config = 14

-- the limit of a group has no room; the number is that of the refusal
abbrev pub over_limit : ℕ
over_limit = 15

-- memory ran out
abbrev pub no_memory : ℕ
no_memory = 101

-- the buffer is shorter than the text
abbrev pub small_buffer : ℕ
small_buffer = 103

-- the handle has none: no boot, no zone or no CPU
abbrev pub not_live : ℕ
not_live = 104

-- the handle has one already
abbrev pub is_live : ℕ
is_live = 105

-- the zone has no CPU of this number
abbrev pub bad_cpu : ℕ
bad_cpu = 106

-- the zone has no frame of this number
abbrev pub bad_frame : ℕ
bad_frame = 107

-- no group has this number
abbrev pub bad_group : ℕ
bad_group = 108

-- the host was compiled with the headers of another version
abbrev pub bad_version : ℕ
bad_version = 115
