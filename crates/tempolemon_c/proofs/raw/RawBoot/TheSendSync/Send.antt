-- A pointer to the parts of a boot may cross threads, as the parts may.
use Rattle.boot_words.specs.Tables.{KnownTable}
use Rattle.host_memory.proofs.Sends.{Ptr, exits_of, shape, fields, to, IsSend, AllSend, owning_send, struct_send, sendable, Keyless, Option, None, Some, Global, quiet, the_field_send, box_crosses}
use Rattle.host_memory.specs.{brand}
use Rattle.tempolemon_c.specs.{KnownLive, live_row, live_owns}
use Rattle.tempolemon_c.proofs.live.Live.TheSendSync.{the_send as live_send}
use Rattle.tempolemon_c.specs.contracts.raw.RawBoot.{the_row, the_type}

owned : (f : KnownTable) (a : Global) (p : Ptr) (o : Option KnownLive) → Keyless (live_owns brand f a p o)
owned f a p None = tt
owned f a p (Some live) = box_crosses (live_row brand f) (live_send brand (record { table = f })) a p live

pub send : IsSend the_row
send =
    let all : AllSend (fields the_type) = (search sendable, (the_field_send, tt)) in
    owning_send the_type all (λ d. owned d.frames d.alloc d.ptr d.live)
    (λ k. quiet (to the_type) (exits_of k (fields the_type)) ((struct_send (shape the_type) all).leaving k))
