use Rattle.std.proofs.Common.{ℕ, ◌∙◌, subst}
use Rattle.std.proofs.lemmas.Bool.{lt-ltb}
use Rattle.mem_reclaim.specs.{FreesBySteps, ReclaimsRound, MissedAll}
use Rattle.mem_alloc.proofs.reclaims.reclaim_anywhere.Goals as goal

pub returns-clause-reclaims : goal.returns-clause-reclaims
returns-clause-reclaims g c =
    subst (λ (h : ℕ). FreesBySteps g.N.BootName.table c.reclaim_round.result.pages c.args.machine.now c.reclaim_round.new.machine
    (ReclaimsRound h c.args.number c.args.want)) c.root.ensures c.reclaim_round.ensures.makes

-- a round that gave fewer pages than were wanted ended its second pass
pub returns-clause-missed : goal.returns-clause-missed
returns-clause-missed g c few =
    subst (λ (h : ℕ). MissedAll h c.args.machine.now c.reclaim_round.new.machine) c.root.ensures
    (c.reclaim_round.ensures.missed (c.reclaim_round.ensures.tried_all ∙ lt-ltb c.reclaim_round.result.pages c.args.want few))
