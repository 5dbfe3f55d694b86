-- `of` moves two fields, and the pointer owns what the box owned.
use Rattle.host_memory.proofs.Moves.{always, moved, shown}
use Rattle.host_memory.proofs.Walks.{refl, Args, a_type, bounded, box_owns, dcons, dnil, ghosts, inst_fn, no, param, shape, Some, ◌∷◌, []}
use Rattle.std_heap.specs.contracts.Global as Heap
use Rattle.host_memory.specs.contracts.box_parts.BoxParts as BoxParts
use Rattle.zone_threads.specs.contracts.home.Home as Home
use Rattle.tempolemon_threads.specs.contracts.home_pointer.HomePointer as HomePointer
use Rattle.tempolemon_threads.specs.contracts.home_pointer.HomePointer.of as F
use Rattle.tempolemon_threads.specs.contracts.home_pointer.HomePointer.of.Key.{name as #self}
use Rattle.tempolemon_threads.proofs.home_pointer.HomePointer.of.Statement as stated
use Rattle.tempolemon_threads.proofs.home_pointer.HomePointer.of.Code as code

pub of_spec : {M : Type 1} → stated.statement M
of_spec 𝓤 𝓛 𝓜 𝓡 wired N L g d met =
    let args : Args = bounded (a_type ∷ []) (N, tt) (dcons d dnil) in let R = Home.the_row (param 0 N) g in
    moved 𝓛 𝓜 𝓡 1 (BoxParts.the_row R Heap.the_row ghosts) (HomePointer.the_type (param 0 N)) no (F.clauses N g d 𝓛 𝓜.mem 𝓡.returns)
    (λ x. x.ptr) (λ x. x.alloc) (λ x. box_owns (ghosts.dealloc_token x.alloc) R x.ptr x.value)
    (λ x. Unit {0}) (λ x t. record { ptr = x.ptr; alloc = x.alloc; frames = g.table; home = Some x.value })
    (λ κs x h. always 𝓤 _) (λ x t vs. refl) (λ κs x t h w. shown 𝓤 (refl, refl))
    (shape (BoxParts.the_type R Heap.the_row ghosts)) (#self args) (inst_fn args code.function)
    (code.unfolded 𝓤 𝓛.H 𝓜 𝓡 wired (N, tt) d) (λ x f. tt) (λ x vs. refl)
