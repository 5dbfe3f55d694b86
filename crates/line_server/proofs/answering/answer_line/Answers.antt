-- Serves the contract of `answer_line`: the line's answer, or its part of a log.
use Rattle.std.proofs.Common.{◌≡◌, rules}
use Rattle.script_replay.specs.Lines.{SystemState, system_state}
use Rattle.line_server.specs.declared.form.SessionForm.TheVariants.{Answers, Steps}
use Rattle.line_server.proofs.Answered.{answered_in}
use Rattle.line_server.proofs.answering.answer_line.Goals as goal

pub returns-in_err-serve_line-in-Answers : goal.returns-in_err-serve_line-in-Answers
returns-in_err-serve_line-in-Answers g c =
    let s : SystemState = system_state c.args.locked.now c.args.cpus.now in
    let e : SystemState = system_state c.serve_line.new.locked c.serve_line.new.cpus in
    let served = c.serve_line.ensures.served in
    record {
      served = answered_in c.from_residual.result g.N.BootName.table c.args.form (Answers c.in-Answers.is_explained) c.args.text.now
          c.args.line.now s e served.text c.in-Answers.is served.so (search rules);
    }

pub returns-in_ok-serve_line-in-Answers : goal.returns-in_ok-serve_line-in-Answers
returns-in_ok-serve_line-in-Answers g c =
    let s : SystemState = system_state c.args.locked.now c.args.cpus.now in
    let e : SystemState = system_state c.serve_line.new.locked c.serve_line.new.cpus in
    let served = c.in_ok-serve_line-in-Answers.ensures.served in
    let told : c.into_bytes.result.items ≡ served.text = search rules in
    record {
      served = answered_in _ g.N.BootName.table c.args.form (Answers c.in-Answers.is_explained) c.args.text.now
          c.args.line.now s e served.text c.in-Answers.is served.so told;
    }

pub returns-in_err-log_line-in-Steps : goal.returns-in_err-log_line-in-Steps
returns-in_err-log_line-in-Steps g c =
    let s : SystemState = system_state c.args.locked.now c.args.cpus.now in
    let e : SystemState = system_state c.log_line.new.locked c.log_line.new.cpus in
    let logged = c.log_line.ensures.logged in
    record {
      served = answered_in c.from_residual-in_err-log_line-in-Steps.result g.N.BootName.table c.args.form Steps c.args.text.now c.args.line.now s e logged.part
          c.in-Steps.is logged.so (search rules);
    }

pub returns-in_ok-log_line-in-Steps : goal.returns-in_ok-log_line-in-Steps
returns-in_ok-log_line-in-Steps g c =
    let s : SystemState = system_state c.args.locked.now c.args.cpus.now in
    let e : SystemState = system_state c.log_line.new.locked c.log_line.new.cpus in
    let logged = c.in_ok-log_line-in-Steps.ensures.logged in
    let told : c.log_line.new.log.items ≡ logged.part = search rules in
    record {
      served = answered_in _ g.N.BootName.table c.args.form Steps c.args.text.now c.args.line.now s e logged.part c.in-Steps.is logged.so told;
    }
