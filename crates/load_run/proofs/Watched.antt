-- A run that a watch saw goes on. Serves `check_on_boot`.
use Rattle.std.proofs.Common.{◌≡◌, ◌++◌, true, arith, length-append}
use Rattle.step_rules.specs.{Zone, Run}
use Rattle.mem_core.proofs.Keeping.{always_keeps}
use Rattle.step_watch.specs.Watched.{KnownWatch, SawRun, Watches, has_legal_steps, state_seen}
use Rattle.step_watch.proofs.Watching.{goes_on}

pub saw_more : (zone : Zone) (run : Run) (between : KnownWatch) (steps : Run) (later : KnownWatch) → SawRun zone run between → Watches between steps later
    → has_legal_steps later ≡ true → SawRun zone (run ++ steps) later
saw_more zone run between steps later saw watched on =
    let more = watched.saw on in
    let ends = goes_on zone run (state_seen between) steps (state_seen later) saw.legal saw.state more.allowed in
    let parts = length-append run steps in
    let a = saw.count in
    let b = more.count in
    record {
      legal = ends.0;
      state = ends.1;
      count = omega (arith, parts, a, b);
      promise = always_keeps zone (run ++ steps) ends.0;
    }
