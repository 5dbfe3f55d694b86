use Rattle.std.proofs.Common.{◌-◌, Ok, get_or, ap, refl}
use Rattle.mem_system.specs.Cpus.{CpuInRun}
use Rattle.script_replay.specs.Terms.{terms}
use Rattle.script_replay.proofs.Going.{go_keeps, part_read}
use Rattle.script_replay.proofs.replays.serve_line.Goals as goal

pub returns-in-Go : goal.returns-in-Go
returns-in-Go g c = record {
  served = go_keeps g.N.BootName.table c.args.is_explained c.args.locked.now c.args.cpus.now (Ok tt) c.args.answers.now c.args.line.now
      c.in-Go.is c.prove_sound.ensures;
}

pub returns-in-At : goal.returns-in-At
returns-in-At g c = record {
  served = part_read (terms g.N.BootName.table c.args.is_explained) c.args.locked.now c.serve_at_cpu.new.locked c.args.cpus.now
      c.args.line.now c.in-At.cpu c.in-At.command
      (get_or c.args.cpus.now (c.in-At.cpu - 1) c.index-cpus-at.result) c.serve_at_cpu.new.cpu _ c.args.answers.now
      c.serve_at_cpu.new.answers refl c.in-At.is c.requires.there
      (ap (λ (d : CpuInRun). get_or c.args.cpus.now (c.in-At.cpu - 1) d) c.index-cpus-at.is)
      c.serve_at_cpu.ensures.answered c.serve_at_cpu.ensures.sound;
}
