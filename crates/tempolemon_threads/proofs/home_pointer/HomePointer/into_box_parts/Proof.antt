-- `into_box_parts` moves two fields, and the box owns what the pointer owned.
use Rattle.host_memory.proofs.Moves.{moved, owned, shown, some_of}
use Rattle.host_memory.proofs.Walks.{◌≡◌, refl, sym, ap, ◌∙◌, ◌⊑◌, fact, Args, a_type, bounded, dcons, dnil, ghosts, inst_fn, no, param, shape, IsSome, ◌∷◌, []}
use base.Logic.{snd∗}
use Rattle.std_heap.specs.contracts.Global as Heap
use Rattle.host_memory.specs.contracts.box_parts.BoxParts as BoxParts
use Rattle.tempolemon_threads.specs.Owned.{home_owns}
use Rattle.zone_threads.specs.contracts.home.Home as Home
use Rattle.tempolemon_threads.specs.contracts.home_pointer.HomePointer as HomePointer
use Rattle.tempolemon_threads.specs.contracts.home_pointer.HomePointer.into_box_parts as F
use Rattle.tempolemon_threads.specs.contracts.home_pointer.HomePointer.into_box_parts.Key.{name as #self}
use Rattle.tempolemon_threads.proofs.home_pointer.HomePointer.into_box_parts.Statement as stated
use Rattle.tempolemon_threads.proofs.home_pointer.HomePointer.into_box_parts.Code as code

pub into_box_parts_spec : {M : Type 1} → stated.statement M
into_box_parts_spec 𝓤 𝓛 𝓜 𝓡 wired N L g d met =
    let args : Args = bounded (a_type ∷ []) (N, tt) (dcons d dnil) in let P = param 0 N in
    let From = HomePointer.the_type P in let To = BoxParts.the_type (Home.the_row P g) Heap.the_row ghosts in
    let IsHere = λ (x : From.D). IsSome x.home × (x.frames ≡ g.table) in
    moved 𝓛 𝓜 𝓡 1 (HomePointer.the_row P) To no (F.clauses N g d 𝓛 𝓜.mem 𝓡.returns)
    (λ x. x.ptr) (λ x. x.alloc) (λ x. home_owns P x.frames x.alloc x.ptr x.home)
    IsHere (λ x here. record { ptr = x.ptr; alloc = x.alloc; value = (some_of x.home here.0).0 })
    (λ κs x h. snd∗ 𝓤 (fact 𝓤 (κs.0 ⊑ N.lives)) (fact 𝓤 (IsHere x)))
    (λ x here vs. ap (λ F. owned (shape To) x.ptr x.alloc F vs)
    (ap (λ f. home_owns P f x.alloc x.ptr x.home) here.1 ∙ ap (home_owns P g.table x.alloc x.ptr) (sym (some_of x.home here.0).1)))
    (λ κs x here h w. shown 𝓤 (some_of x.home here.0).1)
    (shape From) (#self args) (inst_fn args code.function) (code.unfolded 𝓤 𝓛.H 𝓜 𝓡 wired (N, tt) d) (λ x f. tt) (λ x vs. refl)
