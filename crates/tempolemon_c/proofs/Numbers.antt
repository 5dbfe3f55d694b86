-- A status that tells a refusal is at most 22.
use Rattle.std.proofs.Common.{◌≤◌, arith}
use Rattle.mem_system.specs.declared.outcome.Outcome.{Outcome}
use Rattle.mem_system.specs.declared.outcome.Outcome.TheVariants as outcome
use Rattle.reply_texts.specs.declared.line_answer.LineAnswer.{LineAnswer}
use Rattle.reply_texts.specs.declared.line_answer.LineAnswer.TheVariants as answer
use Rattle.reply_texts.specs.declared.steps.UnlockedAnswer.TheVariants as unlocked
use Rattle.host_memory.proofs.Numbers.{number_low}
use Rattle.host_memory.specs.{outcome_status}
use Rattle.tempolemon_c.specs.{most_refusal, status_of}

outcome_low : (given : Outcome) → outcome_status given ≤ most_refusal
outcome_low (outcome.OverLimit group) = omega arith
outcome_low (outcome.Refused fault) = number_low fault
outcome_low other = omega arith

-- the status of an answer
pub status_low : (answer : LineAnswer) → status_of answer ≤ most_refusal
status_low (answer.Served outcome) = outcome_low outcome
status_low (answer.Unlocked (unlocked.Refused fault)) = number_low fault
status_low answer = omega arith
