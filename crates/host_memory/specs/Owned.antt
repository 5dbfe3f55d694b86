-- What a pointer of a handle owns.
use Rattle.std.specs.Prelude.{Option, None, Some}
use base.Fml.{Fml, ftrue}
use base.Stored.{Coded}
use denote.RattleType.{RattleType}
use denote.RawPtr.{Ptr}
use Rattle.std.specs.Box.Ownership.{box_owns}
use Rattle.std.specs.Global.{Global}
use Rattle.core.specs.contracts.marker.Brand as Brand
use Rattle.boot_words.specs.Tables.{KnownTable}
use Rattle.std_heap.specs.contracts.GlobalAllocator.TheImpl.{ghosts}
use Rattle.boot_words.specs.contracts.raw.BootWords as BootWords

-- how a table of a boot's words is stored
abbrev pub frames_coded : Coded KnownTable
frames_coded = BootWords.the_row.coded

-- the type that stands for a name in a type of C
abbrev pub brand : RattleType
brand = Brand.the_row

-- a pointer owns what it leads to as a box does; a pointer to nothing owns nothing
abbrev pub pointer_owns : (row : RattleType) → Global → Ptr → Option row.Denot → Fml
pointer_owns row alloc ptr None = ftrue
pointer_owns row alloc ptr (Some known) = box_owns (ghosts.dealloc_token alloc) row ptr known
