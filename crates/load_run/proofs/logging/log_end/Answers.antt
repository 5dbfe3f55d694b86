-- Serves the contract of `log_end`: the boot ended with a new watch, and what that wrote was added.
use Rattle.std.proofs.Common.{◌∙◌, ◌++◌, ap, codes, rules, sym}
use Rattle.step_watch.specs.Watched.{KnownWatch, has_whole_log, log_text}
use Rattle.line_server.proofs.Logged.{renewed}
use Rattle.load_run.proofs.Logged.{end_logged, end_part}
use Rattle.load_run.proofs.logging.log_end.Goals as goal

pub returns-in_err-added : goal.returns-in_err-added
returns-in_err-added g c =
    let renews = renewed c.args.locked c.set_watch.new.self c.args.cpus.items c.logging.result c.logging.ensures c.set_watch.ensures in
    record {
      logged = end_part c.from_residual.result _ _ _ _ _ c.close-audit.result _ _ renews c.empty_cpus-held.ensures.leaves c.close-audit.ensures (search rules);
    }

pub returns : goal.returns
returns g c =
    let renews = renewed c.args.locked c.set_watch.new.self c.args.cpus.items c.logging.result c.logging.ensures c.set_watch.ensures in
    let steps = c.in_ok-added.ensures in
    record {
      logged = end_logged c.add_end_report.result _ _ _ _ _ c.close-audit.result c.args.log.now.items c.add_end_report.new.log.items renews
          c.empty_cpus-held.ensures.leaves c.close-audit.ensures c.add_end_steps-added.new.log.items (ap has_whole_log (sym c.watch.ensures) ∙ steps.whole)
          (steps.added ∙ ap (λ (k : KnownWatch). c.args.log.now.items ++ (codes "# end\n" ++ log_text k)) c.watch.ensures) c.add_end_report.ensures;
    }
