use Rattle.std.proofs.Common.{refl}
use Rattle.step_rules.proofs.examples.a_frame_is_lent_published_and_gone.Goals as goal

pub returns : goal.returns
returns c = record { lent = refl; published = (refl, refl); not_awaited = refl; awaited = (refl, refl) }
