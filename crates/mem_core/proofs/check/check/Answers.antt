-- A checker that has taken no step judges the log.
use Rattle.std.proofs.Common.{◌∙◌, ap, sym, subst}
use Rattle.step_rules.specs.State.{State, Zone, at_boot}
use Rattle.mem_core.specs.{IsVerdict, zone_of_config}
use Rattle.mem_core.proofs.Checking.{says_of_log}
use Rattle.mem_core.proofs.Keeping.{always_keeps}
use Rattle.mem_core.proofs.check.check.Goals as goal

pub judge-verdict-requires-clause-state : goal.judge-verdict-requires-clause-state
judge-verdict-requires-clause-state c = c.in_ok-checker.ensures.state ∙ sym (ap (λ (s : State). at_boot s.zone) c.in_ok-checker.ensures.state)

pub returns-clause-verdict : goal.returns-clause-verdict
returns-clause-verdict c =
    subst (λ (z : Zone). IsVerdict z c.args.log.now c.judge-verdict.result) (ap (λ (s : State). s.zone) c.in_ok-checker.ensures.state) c.judge-verdict.ensures

pub returns-clause-legal : goal.returns-clause-legal
returns-clause-legal c = says_of_log (zone_of_config c.args.config) c.args.log.now c.judge-verdict.result (returns-clause-verdict c)

pub returns-clause-promise : goal.returns-clause-promise
returns-clause-promise c = λ same. always_keeps (zone_of_config c.args.config) c.args.log.now ((returns-clause-legal c).0 same)
