use Rattle.std.proofs.Common.{rules}
use Rattle.std.specs.String.{string_bytes}
use Rattle.script_replay.specs.Terms.{known_system}
use Rattle.script_replay.proofs.Owning.{own_begun, own_end, own_more}
use Rattle.script_replay.proofs.cpu_lines.serve_own.Goals as goal

pub loop-line-init : goal.loop-line-init
loop-line-init g c =
    own_begun (known_system g.N.BootName.table c.args.job.now.visitor.system.now.sizes) c.args.job.now.is_numbered c.args.cpu_number c.args.cpu.now _ (search rules)

pub loop-line-preserved : goal.loop-line-preserved
loop-line-preserved g c =
    let job = c.args.job.now in
    own_more (known_system g.N.BootName.table c.args.job.now.visitor.system.now.sizes) job.is_numbered c.args.cpu_number c.args.cpu.now c.loop-line.cpu c.serve_own_line.new.cpu
    job.lines.now c.loop-line.line-index _ (string_bytes c.loop-line.text) (string_bytes c.serve_own_line.new.text) c.loop-line-test.true
    c.loop-line.invariant c.in_ok-serve_own_line.ensures.text c.in_ok-serve_own_line.ensures.so c.in_ok-serve_own_line.ensures.added

pub returns : goal.returns
returns g c =
    let job = c.args.job.now in
    own_end (known_system g.N.BootName.table c.args.job.now.visitor.system.now.sizes) job.is_numbered c.args.cpu_number c.args.cpu.now c.loop-line.cpu job.lines.now
    c.loop-line.line-index (string_bytes c.loop-line.text) c.loop-line-test.false c.loop-line.invariant
