-- Steps that move no peak and no count. Serves `a_boot_agrees`, `lines_follow`, `fast_lines_follow`.
use Rattle.std.proofs.Common.{◌≡◌, ℕ, true, [], sym, ◌∙◌, ap, subst}
use Rattle.group_tree.specs.Groups.{has_group}
use Rattle.group_charge.specs.Charges.{Ledger, peak_of}
use Rattle.step_rules.specs.declared.step.Step.{Step}
use Rattle.step_rules.specs.declared.step.Answer.{Answer}
use Rattle.step_rules.specs.{Run, state_of, IsLegalRun, pushed, IsPeak}
use Rattle.step_rules.proofs.Peaking.{peaks_are_kept}
use Rattle.step_rules.proofs.Noting.{events_are_counted}
use Rattle.boot_words.proofs.Holding.{allowed_at}
use Rattle.boot_words.specs.{zone_of_boot, KnownTable}
use Rattle.mem_machine.specs.{AgreesWithRun}
use Rattle.mem_machine.proofs.Agreeing.{first_agrees}
use Rattle.mem_machine.proofs.Followed.{is_still, still_peak, below_stays, at_stays}
use Rattle.mem_history.specs.Kept.{ABootAgrees}

-- if the run continues with a step that changes no group, peak or count, the ledger still has those of the run
pub tells_still : (t : KnownTable) (run : Run) (l : Ledger) (step : Step) (answer : Answer) → IsLegalRun (zone_of_boot t) run
    → IsLegalRun (zone_of_boot t) (pushed run step answer) → is_still step.action answer ≡ true
    → (state_of (zone_of_boot t) (pushed run step answer)).groups ≡ (state_of (zone_of_boot t) run).groups → AgreesWithRun t run l → AgreesWithRun t (pushed run step answer) l
tells_still t run l step answer legal more still groups told =
    let zone = zone_of_boot t in
    let s = state_of zone run in
    let ok = allowed_at zone run (step, answer) [] more in
    let was : (m : ℕ) → has_group (state_of zone (pushed run step answer)).groups m ≡ true → has_group s.groups m ≡ true = λ m there.
    ap (λ g. has_group g m) (sym groups) ∙ there in
    record {
      peak = λ m there.
          subst (IsPeak zone (pushed run step answer) m) (still_peak (state_of zone (pushed run step answer)) step.action answer m (peak_of l m) still)
          (peaks_are_kept.step zone run step answer legal ok m (peak_of l m) there (λ old. told.peak m old));
      events = λ key m there. told.events key m (was m there)
          ∙ sym ((events_are_counted.step zone run step answer key m).below ∙ below_stays key m s (step, answer) _ still);
      events_local = λ key m there. told.events_local key m (was m there)
          ∙ sym ((events_are_counted.step zone run step answer key m).local ∙ at_stays key m s (step, answer) _ still);
    }

pub a_boot_agrees : ABootAgrees
a_boot_agrees t m first = subst (AgreesWithRun t []) (sym first.ledger) (first_agrees t)
