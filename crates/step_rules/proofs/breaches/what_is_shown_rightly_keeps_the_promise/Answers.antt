use Rattle.step_rules.proofs.ShownStates.{kept_run_is_legal, right_is_shown, right_is_kept}
use Rattle.step_rules.proofs.breaches.what_is_shown_rightly_keeps_the_promise.Goals as goal

pub returns : goal.returns
returns c = record { legal = kept_run_is_legal; shown = right_is_shown; kept = right_is_kept }
