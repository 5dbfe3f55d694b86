-- A pointer to a home may cross threads, as the home may.
use Rattle.boot_words.specs.Tables.{KnownTable}
use Rattle.host_memory.proofs.Sends.{Ptr, exits_of, shape, fields, to, IsSend, AllSend, owning_send, struct_send, sendable, Keyless, Option, None, Some, Global, quiet, the_field_send, box_crosses}
use Rattle.zone_threads.specs.Homes.{KnownHome}
use Rattle.zone_threads.proofs.home.Home.TheSendSync.{the_send as home_send}
use Rattle.host_memory.specs.{brand}
use Rattle.tempolemon_threads.specs.Owned.{home_row, home_owns}
use Rattle.tempolemon_threads.specs.contracts.raw.RawHome.{the_row, the_type}

owned : (f : KnownTable) (a : Global) (p : Ptr) (o : Option KnownHome) → Keyless (home_owns brand f a p o)
owned f a p None = tt
owned f a p (Some home) = box_crosses (home_row brand f) (home_send brand (record { table = f })) a p home

pub send : IsSend the_row
send =
    let all : AllSend (fields the_type) = (search sendable, (the_field_send, tt)) in
    owning_send the_type all (λ d. owned d.frames d.alloc d.ptr d.home)
    (λ k. quiet (to the_type) (exits_of k (fields the_type)) ((struct_send (shape the_type) all).leaving k))
