-- The frames that stay are those of the filter.
use Rattle.std.proofs.Common.{◌==◌, rules, tests}
use Rattle.std.specs.Prelude.{not}
use Rattle.std.proofs.lemmas.Fn.{filter_same}
use Rattle.mem_core.proofs.seat.remove_frame.Goals as goal

pub returns-clause-frames : goal.returns-clause-frames
returns-clause-frames c = filter_same _ (λ x. not (x == c.args.frame)) _ (λ x b f h. search (rules, tests)) _ _ c.retain.ensures.filtered
