use Rattle.std.proofs.Common.{◌≤◌, arith}
use Rattle.mem_system.proofs.Writing.{reclaims_all, reclaims_less}
use Rattle.mem_system.proofs.files.reclaim_asked.Goals as goal

pub returns-then-reclaim_amount-asked-clause-written : goal.returns-then-reclaim_amount-asked-clause-written
returns-then-reclaim_amount-asked-clause-written g c =
    let did = c.reclaim_amount.ensures in
    reclaims_less g.N.BootName.table c.args.group c.args.asked c.reclaim_amount.result c.args.machine.now
    c.reclaim_amount.new.machine c.requires.below_root did.rounds did.missed did.usage did.keeps c.if-reclaim_amount-asked.true

pub returns-else-reclaim_amount-asked-clause-written : goal.returns-else-reclaim_amount-asked-clause-written
returns-else-reclaim_amount-asked-clause-written g c =
    let did = c.reclaim_amount.ensures in
    let less = c.if-reclaim_amount-asked.false in
    let enough : c.args.asked ≤ c.reclaim_amount.result = omega (arith, less) in
    reclaims_all g.N.BootName.table c.args.group c.args.asked c.reclaim_amount.result c.args.machine.now
    c.reclaim_amount.new.machine c.requires.below_root did.rounds did.missed did.usage did.keeps enough

pub returns-then-reclaim_amount-asked-clause-visit : goal.returns-then-reclaim_amount-asked-clause-visit
returns-then-reclaim_amount-asked-clause-visit g c = c.reclaim_amount.ensures.keeps.visit

pub returns-else-reclaim_amount-asked-clause-visit : goal.returns-else-reclaim_amount-asked-clause-visit
returns-else-reclaim_amount-asked-clause-visit g c = c.reclaim_amount.ensures.keeps.visit
