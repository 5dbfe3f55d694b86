use Rattle.std.proofs.Common.{◌≡◌, ◌==◌, false, rules}
use Rattle.script_replay.specs.{ServesOwnBySteps, known_system}
use Rattle.script_replay.proofs.Owning.{go_skipped, other_skipped}
use Rattle.script_replay.proofs.Telling.{nothing_added}
use Rattle.script_replay.proofs.cpu_lines.serve_own_line.Goals as goal

pub returns-in-Go : goal.returns-in-Go
returns-in-Go g c =
    let on = known_system g.N.BootName.table c.args.job.now.visitor.system.now.sizes in
    let cpu = c.args.cpu.now in
    nothing_added (ServesOwnBySteps on c.args.job.now.is_numbered c.args.cpu_number c.args.line.now cpu cpu) c.args.text.now _
    (go_skipped on c.args.job.now.is_numbered c.args.cpu_number c.args.line.now cpu c.in-Go.is)

pub returns-then-line_cpu-cpu_number : goal.returns-then-line_cpu-cpu_number
returns-then-line_cpu-cpu_number g c =
    let on = known_system g.N.BootName.table c.args.job.now.visitor.system.now.sizes in
    let cpu = c.args.cpu.now in
    let other : (c.in-At.line_cpu == c.args.cpu_number) ≡ false = search rules in
    nothing_added (ServesOwnBySteps on c.args.job.now.is_numbered c.args.cpu_number c.args.line.now cpu cpu) c.args.text.now _
    (other_skipped on c.args.job.now.is_numbered c.args.cpu_number c.args.line.now c.in-At.line c.in-At.line_cpu c.in-At.command cpu c.in-At.is other)
