use Rattle.step_rules.proofs.Breaking.{past_a_limit_breaks, granted_when_killed_breaks}
use Rattle.step_rules.proofs.breaches.a_grant_past_a_limit_breaks_the_promise.Goals as goal

pub returns : goal.returns
returns c = record { limit = past_a_limit_breaks; killed = granted_when_killed_breaks }
