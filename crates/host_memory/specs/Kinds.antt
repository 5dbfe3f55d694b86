-- The results that typed calls of both libraries have, with their kinds as the header numbers them.
use Rattle.std.specs.Prelude.{ℕ}
use Rattle.frame_word.specs.declared.answers.Get.{Get}
use Rattle.frame_word.specs.declared.answers.Get.TheVariants.{Held, Zero, Raced, Full}
use Rattle.frame_word.specs.declared.answers.Put as word
use Rattle.frame_word.specs.declared.answers.Put.TheVariants as put
use Rattle.group_tree.specs.Faults.{number_of}
use Rattle.mem_system.specs.declared.outcome.Outcome.{Outcome}
use Rattle.mem_system.specs.declared.outcome.Outcome.TheVariants as outcome
use Rattle.host_memory.specs.Statuses.{done, over_limit}
use Rattle.host_memory.specs.declared.typed_result.TypedResult.{TypedResult}

-- a kind with a number
abbrev pub result_with : (kind number : ℕ) → TypedResult
result_with kind number = record { number = number; kind = kind }

-- the result of a call that wasn't served
abbrev pub no_result : TypedResult
no_result = result_with 0 0

-- the result of a pin that was asked for
abbrev pub get_result : Get → TypedResult
get_result Held = result_with 14 0
get_result Zero = result_with 15 0
get_result (Raced found) = result_with 16 0
get_result Full = result_with 17 0

-- the result of a pin that was put
abbrev pub put_result : word.Put → TypedResult
put_result (put.Left references) = result_with 10 references
put_result put.Last = result_with 18 0

-- the result of an outcome, if a text has this length
abbrev pub outcome_result : (length : ℕ) → Outcome → TypedResult
outcome_result length outcome.Done = result_with 1 0
outcome_result length (outcome.Group group) = result_with 2 group
outcome_result length (outcome.Frame frame) = result_with 3 frame
outcome_result length (outcome.Text group file) = result_with 4 length
outcome_result length (outcome.Stat stat) = result_with 4 length
outcome_result length outcome.Free = result_with 5 0
outcome_result length (outcome.Lent cpu) = result_with 6 cpu
outcome_result length (outcome.Charged group) = result_with 7 group
outcome_result length outcome.Marked = result_with 8 0
outcome_result length outcome.Active = result_with 9 0
outcome_result length (outcome.Left references) = result_with 10 references
outcome_result length outcome.Returned = result_with 11 0
outcome_result length (outcome.OverLimit group) = result_with 20 group
outcome_result length (outcome.Refused fault) = result_with 20 0

-- the status of an outcome: a refusal's number, or 0
abbrev pub outcome_status : Outcome → ℕ
outcome_status (outcome.OverLimit group) = over_limit
outcome_status (outcome.Refused fault) = number_of fault
outcome_status other = done
