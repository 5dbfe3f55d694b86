-- An outcome that isn't a text has no length, and leaves the buffer. Serves `typed_answer_of`.
use Rattle.std.proofs.Common.{◌≡◌, ◌∙◌, List, ℕ, refl}
use Rattle.group_charge.specs.Charges.{Ledger}
use Rattle.mem_system.specs.declared.outcome.Outcome.{Outcome}
use Rattle.mem_system.specs.declared.outcome.Outcome.TheVariants.{Stat, Text}
use Rattle.host_memory.specs.{outcome_result}
use Rattle.host_memory.specs.declared.typed_result.TypedResult.{TypedResult}
use Rattle.tempolemon_c.specs.Calls.{IsPlainOutcome, PutsOutcome}
use Rattle.tempolemon_c.specs.{shown_length}

same_result : (ledger : Ledger) (given : Outcome) → IsPlainOutcome given → outcome_result 0 given ≡ outcome_result (shown_length ledger given) given
same_result ledger (Text group file) plain = absurd plain
same_result ledger (Stat stat) plain = absurd plain
same_result ledger other plain = refl

-- its result is the same by any charges
pub plain_typed : (ledger : Ledger) (given : Outcome) (typed : TypedResult) → IsPlainOutcome given → typed ≡ outcome_result 0 given
    → typed ≡ outcome_result (shown_length ledger given) given
plain_typed ledger given typed plain is = is ∙ same_result ledger given plain

-- and nothing is put into the buffer
pub plain_stays : (ledger : Ledger) (given : Outcome) (buffer : List ℕ) → IsPlainOutcome given → PutsOutcome ledger given buffer buffer
plain_stays ledger (Text group file) buffer plain = absurd plain
plain_stays ledger (Stat stat) buffer plain = absurd plain
plain_stays ledger other buffer plain = refl
