use Rattle.std.proofs.Common.{◌∙◌, ap}
use Rattle.step_watch.specs.Watched.{has_legal_steps, steps_seen}
use Rattle.load_run.proofs.boot_end.end_checked_boot.Goals as goal

pub returns : goal.returns
returns g c = record {
  ends = record {
    ends = record {
      emptied = c.empty_cpus-held.result.1;
      leaves = c.empty_cpus-held.ensures.leaves;
      closes = c.close-audit.ensures;
    };
    is_legal = c.is_legal.ensures ∙ ap has_legal_steps c.watch.ensures;
    steps = c.steps.ensures ∙ ap steps_seen c.watch-2.ensures;
  };
}
