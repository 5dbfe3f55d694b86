-- Serves the contract of `drive_serve`: the session ended, or why it stopped is told.
use Rattle.load_run.proofs.SessionEnds.{drives_served, drives_stopped}
use Rattle.load_run.proofs.serving.drive_serve.Goals as goal

pub returns-in-Ok : goal.returns-in-Ok
returns-in-Ok g c = record { drives = drives_served c.args.options.now c.args.form _ _ _ _ c.in-Ok.ensures.served }

pub returns-in-Err : goal.returns-in-Err
returns-in-Err g c = record {
  drives = drives_stopped c.args.options.now c.args.form _ _ _ _ _ c.in-Err.fault _ c.in-Err.ensures.stopped c.report_fault.ensures.status
      c.report_fault.ensures.told;
}
