-- Serves the contract of `leave`: the handle has a CPU, so the pointer doesn't lead to a home without one.
use Rattle.std.proofs.Common.{ap}
use Rattle.tempolemon_threads.specs.declared.raw.RawHome.{RawHome}
use Rattle.tempolemon_threads.proofs.Crossing.{no_cpu_left}
use Rattle.tempolemon_threads.proofs.handles.CpuPart.leave.Goals as goal

pub unreachable-requires : goal.unreachable-requires
unreachable-requires c =
    let raw = c.take-raw in
    no_cpu_left raw.result.frames c.args.alloc _ _ _ _ _ _ c.args.self.now.is_cpu
    (ap (λ (r : RawHome). r.home) raw.ensures.taken) c.serve_raw-raw.ensures.serves.serves c.in-NotLeft.is c.in_default-reason.is
