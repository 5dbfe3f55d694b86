-- Serves the contract of `drive`: the task that the words ask for keeps its promise, or the words are told to be wrong.
use Rattle.load_run.proofs.Verdicts.{asked_drives, drives_words}
use Rattle.load_run.proofs.program.drive.Goals as goal

pub returns-in-Ok : goal.returns-in-Ok
returns-in-Ok g c = record {
  drives = asked_drives _ c.in-Ok.options _ _ _ _ c.in-Ok.ensures.asked c.drive_task.ensures.drives;
}

pub returns-in-Err : goal.returns-in-Err
returns-in-Err g c = record {
  drives = drives_words _ _ _ _ _ c.in-Err.unread _ c.in-Err.ensures.fault c.report_fault.ensures.status c.report_fault.ensures.told;
}
