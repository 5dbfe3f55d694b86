use Rattle.std.proofs.Common.{◌-◌, ap, get_or}
use Rattle.std.specs.Prelude.{length}
use Rattle.mem_system.specs.Cpus.{CpuInRun}
use Rattle.script_lines.specs.declared.line.Command.TheVariants.{Alloc}
use Rattle.script_replay.specs.Ranges.{CpuCommandInRange}
use Rattle.script_replay.proofs.Saying.{command_said, part_of}
use Rattle.script_replay.proofs.calls.alloc_value.Goals as goal

pub returns-clause-answer : goal.returns-clause-answer
returns-clause-answer g c path is =
    let cpus = c.args.cpus.now in
    let at = c.args.cpu - 1 in
    let part : CpuInRun = get_or cpus at c.index-cpus-at.result in
    let frames = g.N.BootName.table.frames in
    let there : CpuCommandInRange frames (length cpus) c.args.cpu (Alloc path c.args.order) = record { low = c.requires.low; high = c.requires.high; names = tt } in
    command_said g.N.BootName.table c.args.locked.now c.serve_alloc_of-value.new.locked cpus c.args.cpu (Alloc path c.args.order)
    part c.serve_alloc_of-value.new.cpu _ tt
    (part_of cpus frames c.args.cpu (Alloc path c.args.order) part there (ap (λ (d : CpuInRun). get_or cpus at d) c.index-cpus-at.is))
    (c.serve_alloc_of-value.ensures.answer path is) c.prove_sound.ensures
