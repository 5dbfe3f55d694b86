-- Serves the contract of `drive_lint`: what is found is written, or a beginning of it; or a fault came before, and is told.
use Rattle.std.specs.String.{string_bytes}
use Rattle.load_run.proofs.Reporting.{lints_early, lints_short, lints_written}
use Rattle.load_run.proofs.linting.drive_lint.Goals as goal

pub returns-in-Ok-write_answers : goal.returns-in-Ok-write_answers
returns-in-Ok-write_answers g c = record {
  lints = lints_written _ _ _ _ _ (string_bytes c.in-Ok.lint.text) _ c.in-Ok.lint.is_clean _ c.in-Ok.ensures.lint
      c.as_bytes.ensures.value c.in-Ok-write_answers.ensures.written c.status_of.ensures;
}

pub returns-in-Ok : goal.returns-in-Ok
returns-in-Ok g c = record {
  lints = lints_short _ _ _ _ _ _ (string_bytes c.in-Ok.lint.text) _ c.in-Ok.lint.is_clean _ _ c.in-Ok.ensures.lint
      c.as_bytes.ensures.value c.write_answers.ensures.beginning
      c.in-Err-write_answers.ensures.fault c.report_fault.ensures.status c.report_fault.ensures.told;
}

pub returns : goal.returns
returns g c = record {
  lints = lints_early _ _ _ _ _ c.in-Err.fault _ c.in-Err.ensures.fault c.report_fault-in-Err.ensures.status c.report_fault-in-Err.ensures.told;
}
