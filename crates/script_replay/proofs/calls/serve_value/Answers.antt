use Rattle.std.proofs.Common.{◌-◌, ap, get_or}
use Rattle.mem_system.specs.Cpus.{CpuInRun}
use Rattle.script_replay.proofs.Saying.{command_said, part_of}
use Rattle.script_replay.proofs.calls.serve_value.Goals as goal

pub returns-clause-answer : goal.returns-clause-answer
returns-clause-answer g c =
    let cpus = c.args.cpus.now in
    let at = c.args.cpu - 1 in
    let part : CpuInRun = get_or cpus at c.index-cpus-at.result in
    command_said g.N.BootName.table c.args.locked.now c.serve_command-value.new.locked cpus c.args.cpu c.args.command.now
    part c.serve_command-value.new.cpu _ c.requires.has_value
    (part_of cpus _ c.args.cpu c.args.command.now part c.requires.there (ap (λ (d : CpuInRun). get_or cpus at d) c.index-cpus-at.is))
    c.serve_command-value.ensures.answer c.prove_sound.ensures
