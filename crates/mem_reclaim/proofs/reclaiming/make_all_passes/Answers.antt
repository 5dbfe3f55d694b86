use Rattle.std.proofs.Common.{◌∙◌, false, true, sym, arith}
use Rattle.mem_reclaim.proofs.Giving.{as_all, shares_enough, shares_then}
use Rattle.mem_reclaim.proofs.Grown.{held_after}
use Rattle.mem_reclaim.proofs.Keeping.{keeps_both}
use Rattle.mem_reclaim.proofs.Passing.{all_missed}
use Rattle.mem_reclaim.proofs.reclaiming.make_all_passes.Goals as goal

-- ---- without shares

pub returns-then-not-is_proportional-clause-reclaims : goal.returns-then-not-is_proportional-clause-reclaims
returns-then-not-is_proportional-clause-reclaims g c =
    as_all g.N.BootName.table _ _ c.args.group c.args.want _ false (sym c.is_proportional.ensures.choice ∙ c.if-not-is_proportional.true) c.make_passes.ensures.reclaims

-- ---- the shares were enough

pub returns-then-want-shared-clause-reclaims : goal.returns-then-want-shared-clause-reclaims
returns-then-want-shared-clause-reclaims g c =
    as_all g.N.BootName.table _ _ c.args.group c.args.want _ true (sym c.is_proportional.ensures.choice ∙ c.if-not-is_proportional.false)
    (shares_enough g.N.BootName.table _ _ c.args.group c.args.want _ c.if-want-shared.true c.reclaim_shares-shared.ensures.passes)

pub returns-then-want-shared-clause-missed : goal.returns-then-want-shared-clause-missed
returns-then-want-shared-clause-missed g c less = let enough = c.if-want-shared.true in absurd (omega (arith, less, enough))

-- ---- the passes take the rest

pub make_passes-requires-2-clause-held : goal.make_passes-requires-2-clause-held
make_passes-requires-2-clause-held g c =
    let first = c.reclaim_shares-shared.ensures.passes in
    held_after g.N.BootName.table c.args.machine.now first.steps c.reclaim_shares-shared.new.machine first.moves.runs c.requires.held

pub returns-clause-reclaims : goal.returns-clause-reclaims
returns-clause-reclaims g c =
    as_all g.N.BootName.table _ _ c.args.group c.args.want _ true (sym c.is_proportional.ensures.choice ∙ c.if-not-is_proportional.false)
    (shares_then g.N.BootName.table _ _ _ c.args.group c.args.want _ _ c.reclaim_shares-shared.ensures.passes c.make_passes-2.ensures.reclaims)

pub returns-clause-missed : goal.returns-clause-missed
returns-clause-missed g c less =
    all_missed g.N.BootName.table c.args.group c.args.machine.now c.reclaim_shares-shared.new.machine c.make_passes-2.new.machine c.reclaim_shares-shared.ensures.keeps
    (c.make_passes-2.ensures.missed (omega (arith, less)))

pub returns-clause-keeps : goal.returns-clause-keeps
returns-clause-keeps g c =
    keeps_both g.N.BootName.table c.args.machine.now c.reclaim_shares-shared.new.machine c.make_passes-2.new.machine c.reclaim_shares-shared.ensures.keeps c.make_passes-2.ensures.keeps
