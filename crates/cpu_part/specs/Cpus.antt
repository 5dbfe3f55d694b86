-- What a contract sees of a CPU's part, and what always holds of it.
use Rattle.std.specs.Prelude.{◌≡◌, ℕ, ◌+◌, ◌≤◌, List, []}
use Rattle.atomic_table.specs.Seated.{TableId}
use Rattle.step_rules.specs.State.{times, most_fresh, most_pins}

-- the table of no boot: it has no frame and no CPU
abbrev pub no_table : TableId
no_table = record { words = 0; slots = 0; views_name = 0; atom = 0; block = 0; offset = 0; slot_names = [] }

-- A CPU's part: its number, its listed, fresh and back frames, its pins (an entry for each), and how often a fresh frame
-- was dropped to its list.
pub record KnownCpuLists : Type 0 where
  pub number : ℕ
  pub list : List ℕ
  pub fresh : List ℕ
  pub back : List ℕ
  pub pins : List ℕ
  pub drops : ℕ

-- how many listed and fresh frames a CPU has at most, together
abbrev pub most_listed : ℕ
most_listed = 256

-- how many frames and pins a CPU's part can have
pub record AreWithin (list fresh back pins : ℕ) : Type 0 where
  pub list_bound : list + fresh ≤ most_listed
  pub fresh_bound : fresh ≤ most_fresh
  pub pin_bound : back + pins ≤ most_pins

-- room is reserved for as many frames and pins as there can be
pub record HasRoomForPart (list fresh back pins : ℕ) : Type 0 where
  pub list_room : most_listed ≤ list
  pub fresh_room : most_fresh ≤ fresh
  pub back_room : most_pins ≤ back
  pub pin_room : most_pins ≤ pins

-- the part of a CPU that did nothing yet
abbrev pub first_cpu : ℕ → KnownCpuLists
first_cpu number = record { number = number; list = []; fresh = []; back = []; pins = []; drops = 0 }

-- there is no frame on the lists and no pin
abbrev pub IsIdle : KnownCpuLists → Type 0
IsIdle c = (c.list ≡ []) × (c.fresh ≡ []) × (c.back ≡ []) × (c.pins ≡ [])

-- the frame is on none of the CPU's lists
abbrev pub IsUnlisted : ℕ → KnownCpuLists → Type 0
IsUnlisted f c = (times f c.list ≡ 0) × (times f c.fresh ≡ 0) × (times f c.back ≡ 0)
