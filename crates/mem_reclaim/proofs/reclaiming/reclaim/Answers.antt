use Rattle.std.proofs.Common.{[], refl, arith}
use Rattle.std.proofs.lemmas.Bool.{ltb-true}
use Rattle.mem_reclaim.proofs.Giving.{reclaims_none}
use Rattle.mem_reclaim.proofs.Moving.{moves_rest}
use Rattle.mem_reclaim.proofs.reclaiming.reclaim.Goals as goal

pub returns-then-want-eq0-clause-reclaims : goal.returns-then-want-eq0-clause-reclaims
returns-then-want-eq0-clause-reclaims g c = record {
  steps = [];
  does = reclaims_none c.args.machine.now c.args.group c.args.want c.args.machine.now.is_proportional (let none = c.if-want-eq0.true in omega (arith, none));
  moves = moves_rest g.N.BootName.table c.args.machine.now;
}

pub returns-clause-tried_all : goal.returns-clause-tried_all
returns-clause-tried_all g c = refl

pub returns-clause-missed : goal.returns-clause-missed
returns-clause-missed g c less = c.make_all_passes-pages.ensures.missed (ltb-true c.make_all_passes-pages.result c.args.want less)
