-- Serves the contract of `report_verdict`: the output failed, or memory ran out for the lines.
use Rattle.load_run.proofs.Verdicts.{checks_unwritten}
use Rattle.load_run.proofs.checking.report_verdict.Goals as goal

pub returns-in-Err : goal.returns-in-Err
returns-in-Err g c = record {
  checks = λ all input is verdict. checks_unwritten all input _ _ _ _ c.args.verdict.now c.in-Err.unwritten _ is c.in-Err.ensures.left
      c.report_fault.ensures.status c.report_fault.ensures.told;
}
