-- `none` makes a null pointer, which owns nothing.
use Rattle.host_memory.proofs.Moves.{always, made, makes_null, shown}
use Rattle.host_memory.proofs.Walks.{refl, Args, a_type, bounded, dcons, dnil, ftrue, inst_fn, None, null_ptr, param, shape, yes, ◌∷◌, []}
use Rattle.std_heap.specs.contracts.Global as Heap
use Rattle.tempolemon_c.specs.contracts.live_pointer.LivePointer as LivePointer
use Rattle.tempolemon_c.specs.contracts.live_pointer.LivePointer.none as F
use Rattle.tempolemon_c.specs.contracts.live_pointer.LivePointer.none.Key.{name as #self}
use Rattle.tempolemon_c.proofs.live_pointer.LivePointer.none.Statement as stated
use Rattle.tempolemon_c.proofs.live_pointer.LivePointer.none.Code as code

pub none_spec : {M : Type 1} → stated.statement M
none_spec 𝓤 𝓛 𝓜 𝓡 wired N L g d met =
    let args : Args = bounded (a_type ∷ []) (N, tt) (dcons d dnil) in let To = LivePointer.the_type (param 0 N) in
    made 𝓛 𝓜 𝓡 1 Heap.the_row To yes (F.clauses N g d 𝓛 𝓜.mem 𝓡.returns) (λ a. null_ptr) (λ a. a) (λ a. ftrue)
    (λ a. Unit {0}) (λ a t. record { ptr = null_ptr; alloc = a; frames = g.table; live = None })
    (λ κs a h. always 𝓤 _) (λ a t vs. refl) (λ κs a t h w. shown 𝓤 (refl, refl))
    (#self args) (inst_fn args code.function) (code.unfolded 𝓤 𝓛.H 𝓜 𝓡 wired (N, tt) d) (λ a f. tt)
    (λ a. makes_null 𝓛 _ _ (shape To) (inst_fn args code.function) a)
