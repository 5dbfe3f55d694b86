use Rattle.std.proofs.Common.{◌-◌, get_or, ap}
use Rattle.mem_system.specs.Cpus.{CpuInRun}
use Rattle.script_replay.specs.Terms.{known_system}
use Rattle.script_replay.proofs.Visiting.{part_visited}
use Rattle.script_replay.proofs.visits.serve_by_visit.Goals as goal

pub returns-in-At : goal.returns-in-At
returns-in-At g c = record {
  served = part_visited (known_system g.N.BootName.table c.args.system.now.sizes) c.args.cpus.now c.args.line.now c.in-At.cpu c.in-At.command
      (get_or c.args.cpus.now (c.in-At.cpu - 1) c.index-cpus-at.result) c.visit_text.new.cpu _ c.args.answers.now
      c.visit_text.new.text c.in-At.is c.requires.there
      (ap (λ (d : CpuInRun). get_or c.args.cpus.now (c.in-At.cpu - 1) d) c.index-cpus-at.is) c.visit_text.ensures.answered;
}
