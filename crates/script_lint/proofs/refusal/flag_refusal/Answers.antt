use Rattle.script_lint.proofs.refusal.flag_refusal.Goals as goal

pub returns-in-Err : goal.returns-in-Err
returns-in-Err c = c.read_flag.ensures.bad_limit.0 (let is = c.in-Err.is in let bad = c.in-Err.ensures.err in cc)
