-- Serves the contract of `drive_script`: the answers are written, or a beginning of them; or a fault has its cause, and is told.
use Rattle.std.proofs.Common.{◌∙◌, ap, sym}
use Rattle.load_run.specs.Refusals.{answered_status}
use Rattle.load_run.proofs.Driving.{drives_badly, drives_short, drives_well}
use Rattle.load_run.proofs.program.drive_script.Goals as goal

pub returns-in-Ok-write_answers : goal.returns-in-Ok-write_answers
returns-in-Ok-write_answers g c = record {
  drives = drives_well c.args.options.now _ _ _ _ c.in-Ok.answers.items _ _ c.in-Ok.ensures.answered c.deref.ensures.value
      c.in-Ok-write_answers.ensures.written
      (c.answered_status.ensures ∙ ap (answered_status c.args.options.now.is_strict c.args.options.now.is_numbered)
      (c.deref-in-Ok-write_answers.ensures.value ∙ sym c.deref.ensures.value));
}

pub returns-in-Ok : goal.returns-in-Ok
returns-in-Ok g c = record {
  drives = drives_short _ _ _ _ _ _ c.in-Ok.answers.items _ _ _ c.in-Ok.ensures.answered c.deref.ensures.value c.write_answers.ensures.beginning
      c.in-Err-write_answers.ensures.fault c.report_fault.ensures.status c.report_fault.ensures.told;
}

pub returns : goal.returns
returns g c = record {
  drives = drives_badly _ _ _ _ _ c.in-Err.fault _ c.in-Err.ensures.cause c.report_fault-in-Err.ensures.status c.report_fault-in-Err.ensures.told;
}
