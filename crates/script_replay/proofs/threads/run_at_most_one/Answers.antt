use Rattle.std.proofs.Common.{◌≡◌, ap, get_or, length, rules}
use Rattle.mem_system.specs.Cpus.{CpuInRun}
use Rattle.script_replay.specs.Terms.{known_system}
use Rattle.script_replay.proofs.Workers.{only_answers}
use Rattle.script_replay.proofs.threads.run_at_most_one.Goals as goal

pub returns : goal.returns
returns g c =
    let cpu = get_or c.args.cpus.now 0 c.index-cpus-0.result in
    let one : length c.args.cpus.now ≡ 1 = search rules in
    let read : cpu ≡ get_or c.args.cpus.now 0 cpu = ap (λ (d : CpuInRun). get_or c.args.cpus.now 0 d) c.index-cpus-0.is in
    only_answers (known_system g.N.BootName.table c.args.job.now.visitor.system.now.sizes) c.args.cpu_number c.args.cpus.now cpu c.run_one.new.cpu c.args.job.now.lines.now
    c.args.job.now.is_numbered c.run_one.result one read c.run_one.ensures
