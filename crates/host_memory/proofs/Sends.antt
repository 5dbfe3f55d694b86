-- What a proof cites that a pointer to a box may go to another thread.
use mir.Raw.{raw}
use denote.Memory.{lone}
use denote.RattleType.{RattleType}
use Rattle.std.proofs.Crossing as heap
use Rattle.std_alloc.proofs.SendSync.{lies}
use Rattle.std.specs.Box.Ownership.{box_owns}
use Rattle.std_heap.specs.contracts.GlobalAllocator.TheImpl.{ghosts}
pub use denote.RawPtr.{Ptr}
pub use denote.Struct.Struct.{exits_of}
pub use denote.Struct.Owning.{shape, fields, to}
pub use denote.Param.Send.{IsSend, AllSend, owning_send, struct_send, sendable}
pub use base.Shift.{Keyless}
pub use Rattle.std.specs.Prelude.{Option, None, Some}
pub use Rattle.std.specs.Global.{Global}
pub use Rattle.std_alloc.proofs.SendSync.{quiet}
pub use Rattle.std_heap.proofs.Global.TheSendSync.{the_field_send}

-- a box may go to another thread, if what is in it may
pub box_crosses : (R : RattleType) → IsSend R → (a : Global) (p : Ptr) (x : R.Denot) → Keyless (box_owns (ghosts.dealloc_token a) R p x)
box_crosses R crosses a p x = (lies R crosses p x, heap.frees.frees a (raw (lone R.mir)) p)
