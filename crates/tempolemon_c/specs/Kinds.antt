-- The results of typed calls, with their kinds as the header numbers them.
use Rattle.std.specs.Prelude.{ℕ, length}
use Rattle.group_tree.specs.Faults.{number_of}
use Rattle.cpu_part.specs.declared.answers.Fast as fast
use Rattle.cpu_part.specs.declared.answers.Fast.TheVariants.{Got, FreshFull, ListEmpty, OtherGroup, Drained, NoStock}
use Rattle.group_charge.specs.Charges.{Ledger}
use Rattle.control_files.specs.Stat.{stat_text}
use Rattle.mem_system.specs.Outcomes.{shown_text}
use Rattle.mem_system.specs.declared.outcome.Outcome.{Outcome}
use Rattle.mem_system.specs.declared.outcome.Outcome.TheVariants as outcome
use Rattle.reply_texts.specs.declared.line_answer.LineAnswer.{LineAnswer}
use Rattle.reply_texts.specs.declared.line_answer.LineAnswer.TheVariants as answer
use Rattle.reply_texts.specs.declared.steps.UnlockedAnswer.{UnlockedAnswer}
use Rattle.reply_texts.specs.declared.steps.UnlockedAnswer.TheVariants as unlocked
use Rattle.host_memory.specs.{get_result, outcome_result, outcome_status, put_result, result_with, done}
use Rattle.host_memory.specs.declared.typed_result.TypedResult.{TypedResult}

-- the length of the text that an outcome shows, by the charges
abbrev pub shown_length : Ledger → Outcome → ℕ
shown_length ledger (outcome.Text group file) = length (shown_text ledger group file)
shown_length ledger (outcome.Stat stat) = length (stat_text stat)
shown_length ledger other = 0

-- the result of a frame that was asked for without the lock
abbrev pub fast_result : fast.Fast → TypedResult
fast_result (Got frame) = result_with 3 frame
fast_result FreshFull = result_with 21 0
fast_result ListEmpty = result_with 21 0
fast_result OtherGroup = result_with 21 0
fast_result Drained = result_with 21 0
fast_result NoStock = result_with 21 0

-- the result of an answer that needed no lock
abbrev pub unlocked_result : UnlockedAnswer → TypedResult
unlocked_result (unlocked.Fast fast) = fast_result fast
unlocked_result (unlocked.Got got) = get_result got
unlocked_result (unlocked.Put put) = put_result put
unlocked_result unlocked.Listed = result_with 13 0
unlocked_result (unlocked.Refused fault) = result_with 20 0

-- the result of an answer
abbrev pub result_of : Ledger → LineAnswer → TypedResult
result_of ledger (answer.Served outcome) = outcome_result (shown_length ledger outcome) outcome
result_of ledger answer.Settled = result_with 12 0
result_of ledger (answer.Unlocked said) = unlocked_result said

-- the status of an answer
abbrev pub status_of : LineAnswer → ℕ
status_of (answer.Served outcome) = outcome_status outcome
status_of (answer.Unlocked (unlocked.Refused fault)) = number_of fault
status_of other = done
