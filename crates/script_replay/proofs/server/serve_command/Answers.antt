use Rattle.std.proofs.Common.{◌≡◌, Some, rules, subst, sym}
use Rattle.mem_system.specs.Visits.{locked_state}
use Rattle.script_lines.specs.declared.line.Command.{Command}
use Rattle.script_replay.specs.{ServesAnswer, frame_path, terms}
use Rattle.script_replay.proofs.Serving.{frame_is}
use Rattle.script_replay.proofs.server.serve_command.Goals as goal

pub returns-in-Some-clause-answer : goal.returns-in-Some-clause-answer
returns-in-Some-clause-answer g c =
    let path = c.in-Some.path in
    let served = c.serve_frame in
    let found : frame_path c.args.command.now ≡ Some path = search rules in
    subst (λ (x : Command). ServesAnswer (terms g.N.BootName.table c.args.is_explained) x
    (locked_state c.args.locked.now c.args.cpu.now) (locked_state served.new.locked served.new.cpu) served.result) (sym (frame_is c.args.command.now path found)) served.ensures.answer
