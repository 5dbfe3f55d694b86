-- `into_pointer` moves two fields, and what they own goes with them.
use Rattle.host_memory.proofs.Moves.{always, moved, shown}
use Rattle.host_memory.proofs.Walks.{refl, shape, yes}
use Rattle.host_memory.specs.{brand}
use Rattle.tempolemon_c.specs.Owned.{live_owns}
use Rattle.tempolemon_c.specs.contracts.raw.RawBoot as RawBoot
use Rattle.tempolemon_c.specs.contracts.live_pointer.LivePointer as LivePointer
use Rattle.tempolemon_c.specs.contracts.raw.RawBoot.into_pointer as F
use Rattle.tempolemon_c.specs.contracts.raw.RawBoot.into_pointer.Key.{name as #self}
use Rattle.tempolemon_c.proofs.raw.RawBoot.into_pointer.Statement as stated
use Rattle.tempolemon_c.proofs.raw.RawBoot.into_pointer.Code as code

pub into_pointer_spec : {M : Type 1} → stated.statement M
into_pointer_spec 𝓤 𝓛 𝓜 𝓡 wired =
    moved 𝓛 𝓜 𝓡 0 RawBoot.the_row (LivePointer.the_type brand) yes (F.clauses 𝓛 𝓜.mem 𝓡.returns)
    (λ x. x.ptr) (λ x. x.alloc) (λ x. live_owns brand x.frames x.alloc x.ptr x.live)
    (λ x. Unit {0}) (λ x t. record { ptr = x.ptr; alloc = x.alloc; frames = x.frames; live = x.live })
    (λ κs x g. always 𝓤 _) (λ x t vs. refl) (λ κs x t g w. shown 𝓤 (refl, refl))
    (shape RawBoot.the_type) #self code.function (code.unfolded 𝓤 𝓛.H 𝓜 𝓡 wired) (λ x f. tt) (λ x vs. refl)
