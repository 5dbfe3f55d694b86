-- Serves the contract of `drive_check`: what the log is, was reported; or the input failed, or memory ran out.
use Rattle.std.specs.Prelude.{alloc_error}
use Rattle.load_run.specs.declared.fault.ProgramFault.TheVariants.{Input, NoMemory}
use Rattle.load_run.proofs.Verdicts.{checks_fault, verdict_of}
use Rattle.load_run.proofs.checking.drive_check.Goals as goal

pub returns-in-Err-NoMemory : goal.returns-in-Err-NoMemory
returns-in-Err-NoMemory g c = record {
  checks = checks_fault c.args.is_all _ _ _ _ (NoMemory alloc_error) _ tt c.report_fault-in-Err-NoMemory.ensures.status
      c.report_fault-in-Err-NoMemory.ensures.told;
}

pub returns-in-Err-Input : goal.returns-in-Err-Input
returns-in-Err-Input g c = record {
  checks = checks_fault c.args.is_all _ _ _ _ Input _ tt c.report_fault.ensures.status c.report_fault.ensures.told;
}

pub returns-in-Ok : goal.returns-in-Ok
returns-in-Ok g c =
    let input = g.I.Read.remaining c.args.input.now in
    let all = c.args.is_all in
    record {
      checks = c.report_log.ensures.checks all input (verdict_of all input c.in-Ok.verdict c.in-Ok.ensures.verdict c.in-Ok.ensures.exact);
    }
