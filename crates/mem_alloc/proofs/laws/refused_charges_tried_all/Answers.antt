use Rattle.mem_alloc.proofs.Refused.{refused_tried_all}
use Rattle.mem_alloc.proofs.laws.refused_charges_tried_all.Goals as goal

pub returns : goal.returns
returns c = refused_tried_all
