-- The statuses and the results of typed calls, with their kinds as the header numbers them.
use Rattle.std.specs.Prelude.{ℕ, length}
use Rattle.group_tree.specs.Faults.{number_of}
use Rattle.zone_threads.specs.declared.calls.CallAnswer.{CallAnswer}
use Rattle.zone_threads.specs.declared.calls.CallAnswer.TheVariants as answer
use Rattle.zone_threads.specs.declared.calls.ReadAnswer.{ReadAnswer}
use Rattle.zone_threads.specs.declared.calls.ReadAnswer.TheVariants as read
use Rattle.host_memory.specs.{get_result, no_result, outcome_result, outcome_status, put_result, result_with, bad_frame, bad_group, done}
use Rattle.host_memory.specs.declared.typed_result.TypedResult.{TypedResult}
use Rattle.tempolemon_threads.specs.Statuses.{busy}

-- the result of an answer
abbrev pub call_result_of : CallAnswer → TypedResult
call_result_of answer.Busy = no_result
call_result_of answer.NoFrame = no_result
call_result_of answer.NoGroup = no_result
call_result_of (answer.Pages pages) = result_with 22 pages
call_result_of answer.NoLimit = result_with 23 0
call_result_of (answer.Served outcome) = outcome_result 0 outcome
call_result_of (answer.Taken frame) = result_with 3 frame
call_result_of answer.Listed = result_with 13 0
call_result_of (answer.Got got) = get_result got
call_result_of (answer.Put put) = put_result put
call_result_of answer.Settled = result_with 12 0
call_result_of (answer.Refused fault) = result_with 20 0

-- the status of an answer
abbrev pub call_status_of : CallAnswer → ℕ
call_status_of answer.Busy = busy
call_status_of answer.NoFrame = bad_frame
call_status_of answer.NoGroup = bad_group
call_status_of (answer.Served outcome) = outcome_status outcome
call_status_of (answer.Refused fault) = number_of fault
call_status_of other = done

-- the result of a read
abbrev pub read_result : ReadAnswer → TypedResult
read_result read.Busy = no_result
read_result (read.Text text) = result_with 4 (length text)
read_result (read.Refused fault) = result_with 20 0

-- the status of a read
abbrev pub read_status : ReadAnswer → ℕ
read_status read.Busy = busy
read_status (read.Text text) = done
read_status (read.Refused fault) = number_of fault
