use Rattle.std.proofs.Common.{◌∙◌}
use Rattle.machine_texts.proofs.Spans.{span_found}
use Rattle.machine_texts.proofs.places.span_length.Goals as goal

pub returns : goal.returns
returns c = c.unwrap_or.ensures ∙ span_found c.args.place.now c.args.frame_states.now c.first_elsewhere.result c.first_elsewhere.ensures
