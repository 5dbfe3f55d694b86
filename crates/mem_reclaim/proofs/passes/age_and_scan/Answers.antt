use Rattle.std.proofs.Common.{[], rules}
use Rattle.mem_reclaim.proofs.Passing.{aged_leads, aged_keeps, aged_usage}
use Rattle.mem_reclaim.proofs.Keeping.{keeps_both}
use Rattle.mem_reclaim.proofs.Grown.{held_after}
use Rattle.mem_reclaim.proofs.passes.age_and_scan.Goals as goal

pub scan-requires-clause-held : goal.scan-requires-clause-held
scan-requires-clause-held g c = held_after g.N.BootName.table c.args.machine.now [] c.age.new.self c.age.ensures.steps c.requires.held

pub returns-clause-passes : goal.returns-clause-passes
returns-clause-passes g c =
    aged_leads g.N.BootName.table c.args.machine.now c.age.new.self c.scan.new.machine c.args.group c.args.want c.scan.result c.age.ensures.ages c.age.ensures.steps c.scan.ensures.scans

pub returns-clause-keeps : goal.returns-clause-keeps
returns-clause-keeps g c =
    keeps_both g.N.BootName.table c.args.machine.now c.age.new.self c.scan.new.machine
    (aged_keeps g.N.BootName.table c.args.machine.now c.age.new.self c.args.group c.age.ensures.ages) c.scan.ensures.keeps

pub returns-clause-usage : goal.returns-clause-usage
returns-clause-usage g c x = aged_usage g.N.BootName.table c.args.machine.now c.age.new.self c.scan.new.machine c.args.group x c.scan.result c.age.ensures.ages (c.scan.ensures.usage x)

pub returns-clause-few : goal.returns-clause-few
returns-clause-few g c = search rules
