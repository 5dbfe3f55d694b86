-- Serves the contract of `end_session`: the boot ended, and this is what is written about that.
use Rattle.std.proofs.Common.{◌≡◌, rules}
use Rattle.script_replay.specs.Lines.{SystemState, system_state}
use Rattle.load_run.proofs.SessionEnds.{ended_logged, ended_plainly}
use Rattle.load_run.proofs.serving.end_session.Goals as goal

pub returns-in-Answers : goal.returns-in-Answers
returns-in-Answers g c =
    let s : SystemState = system_state c.args.locked c.args.cpus.items in
    record {
      ended = ended_plainly c.with_end.result g.N.BootName.table c.args.form c.args.is_audited s c.in-Answers.is_explained c.end_boot-ended.result
          c.new.result.items c.in-Answers.is c.end_boot-ended.ensures.ends c.new.ensures.items c.with_end.ensures.told;
    }

pub returns-in_err-log_end-in-Steps : goal.returns-in_err-log_end-in-Steps
returns-in_err-log_end-in-Steps g c =
    let s : SystemState = system_state c.args.locked c.args.cpus.items in
    let adds = c.log_end.ensures.logged in
    record {
      ended = ended_logged c.from_residual.result g.N.BootName.table c.args.form c.args.is_audited s adds.part c.in-Steps.is adds.so (search rules);
    }

pub returns-in_ok-log_end-in-Steps : goal.returns-in_ok-log_end-in-Steps
returns-in_ok-log_end-in-Steps g c =
    let s : SystemState = system_state c.args.locked c.args.cpus.items in
    let adds = c.in_ok-log_end-in-Steps.ensures.logged in
    let told : c.log_end.new.log.items ≡ adds.part = search rules in
    record {
      ended = ended_logged _ g.N.BootName.table c.args.form c.args.is_audited s adds.part c.in-Steps.is adds.so told;
    }
