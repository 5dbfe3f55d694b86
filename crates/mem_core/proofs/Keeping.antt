-- The promise holds of what a core shows, and of each beginning of its run (for `play` and `Core::step`).
use Rattle.std.proofs.Common.{sym, ◌∙◌, ap, subst, refl}
use Rattle.step_rules.specs.{Zone, is_unheld, Run, IsLegalRun, IsShown}
use Rattle.step_rules.specs.State.{State}
use Rattle.step_rules.proofs.Runs.{legal_from}
use Rattle.step_rules.proofs.Promising.{the_promise_is_kept}
use Rattle.mem_core.specs.{CoreState, ShowsRun, state_shown, HasMaximalAreas, core_shown, CoreKeepsPromise, AlwaysKeepsPromise}

shown_is_shown : (s : CoreState) → HasMaximalAreas s → IsShown (state_shown s) (core_shown s)
shown_is_shown s areas = record {
  areas = areas;
  lists = λ p. refl;
  keeper = λ f. refl;
  groups = refl;
  stocks = λ p. refl;
  current = λ g there. refl;
}

pub keeps_promise : (s : CoreState) (run : Run) → ShowsRun s run → HasMaximalAreas s → CoreKeepsPromise s run
keeps_promise s run shows areas free =
    the_promise_is_kept s.zone run (core_shown s) shows.legal (ap (λ (x : State). is_unheld x.hold) (sym shows.state) ∙ free)
    (subst (λ (x : State). IsShown x (core_shown s)) shows.state (shown_is_shown s areas))

pub always_keeps : (zone : Zone) (run : Run) → IsLegalRun zone run → AlwaysKeepsPromise zone run
always_keeps zone run legal k free shown is = the_promise_is_kept zone _ shown (legal_from zone run k legal) free is
