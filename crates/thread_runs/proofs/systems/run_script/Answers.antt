use Rattle.std.proofs.Common.{rules}
use Rattle.load_run.proofs.Answering.{kept_ok, script_of_boot}
use Rattle.thread_runs.proofs.systems.run_script.Goals as goal

pub live_by_threads-requires-clause-lines : goal.live_by_threads-requires-clause-lines
live_by_threads-requires-clause-lines g c κs within =
    script_of_boot c.args.sizes c.in_ok-boot.boot.sizes _ _ _ (search rules) c.deref.ensures.value (kept_ok _ _ _ c.in_ok-lines.ensures.value c.parse_script.ensures.ok)

pub live_by_threads-requires-clause-last : goal.live_by_threads-requires-clause-last
live_by_threads-requires-clause-last g c κs within =
    script_of_boot c.args.sizes c.in_ok-boot.boot.sizes _ _ _ (search rules) c.deref-2.ensures.value (kept_ok _ _ _ c.in_ok-last.ensures.value c.parse_script-2.ensures.ok)
