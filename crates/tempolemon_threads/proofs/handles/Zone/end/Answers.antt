-- Serves the contract of `end`: the pointer that was put back is the one that the request left.
use Rattle.std.proofs.Common.{sym, subst}
use Rattle.std.specs.Prelude.{IsSome}
use Rattle.tempolemon_threads.specs.declared.raw.RawHome.{RawHome}
use Rattle.host_memory.specs.{led_of}
use Rattle.tempolemon_threads.specs.{zone_behind, EndsAs}
use Rattle.tempolemon_threads.proofs.Crossing.{ends_led}
use Rattle.tempolemon_threads.proofs.handles.Zone.end.Goals as goal

pub returns : goal.returns
returns c =
    let raw = c.take-raw in
    let served = c.serve_raw-raw in
    let some : IsSome (led_of raw.result.frames raw.result.home) =
    subst (λ (r : RawHome). IsSome (led_of r.frames r.home)) (sym raw.ensures.taken) c.requires.live in
    let ends : EndsAs served.result.1 (led_of raw.result.frames raw.result.home)
    (led_of served.result.0.frames served.result.0.home) =
    ends_led raw.result.frames c.args.alloc raw.result.home _ _ _ some served.ensures.serves in
    subst (λ (r : RawHome). EndsAs served.result.1 (zone_behind c.args.self.now) (led_of r.frames r.home)) (sym c.put.ensures)
    (subst (λ (r : RawHome). EndsAs served.result.1 (led_of r.frames r.home)
    (led_of served.result.0.frames served.result.0.home)) raw.ensures.taken ends)
