-- Why a command is refused, as an explained answer says it.
use Rattle.std.specs.Prelude.{ℕ, Bool, true, false, List, [], ◌++◌, Option, Some, None}
use Rattle.group_tree.specs.declared.fault.Fault.{Fault}
use Rattle.group_tree.specs.declared.fault.Fault.TheVariants as fault
use Rattle.machine_texts.specs.Refused.{refused_text}
use Rattle.mem_machine.specs.{frame_state_at, place_of, KnownMachine}
use Rattle.mem_machine.specs.declared.frame_state.Place.{Place}
use Rattle.mem_machine.specs.declared.frame_state.Place.TheVariants as place
use Rattle.mem_system.specs.declared.outcome.Outcome.TheVariants.{OverLimit, Refused}
use Rattle.reply_texts.specs.declared.line_answer.LineAnswer.{LineAnswer}
use Rattle.reply_texts.specs.declared.line_answer.LineAnswer.TheVariants as answer
use Rattle.reply_texts.specs.declared.steps.UnlockedAnswer.TheVariants as unlocked

-- the refusal that an answer is, if it is one
abbrev pub fault_in : LineAnswer → Option Fault
fault_in (answer.Served (Refused reason)) = Some reason
fault_in (answer.Served (OverLimit group)) = Some (fault.OverLimit group)
fault_in (answer.Unlocked (unlocked.Refused reason)) = Some reason
fault_in other = None

-- the CPU that a frame at this place is lent to, if it is lent
abbrev pub borrower_at : Place → Option ℕ
borrower_at (place.Lent cpu) = Some cpu
borrower_at other = None

-- the CPU that the machine has lent the frame to, if there is a frame, and it is lent
abbrev pub borrower_of : Option ℕ → KnownMachine → Option ℕ
borrower_of None machine = None
borrower_of (Some frame) machine = borrower_at (place_of (frame_state_at machine.frame_states frame))

-- the line that says why, if there is a refusal
abbrev pub refusal_reason_text : Option Fault → (lent : Option ℕ) → List ℕ
refusal_reason_text None lent = []
refusal_reason_text (Some reason) lent = refused_text reason lent

-- the text of an answer; if it is to be explained and is a refusal, it continues with the line that says why
abbrev pub reasoned_text : (is_explained : Bool) → (said : List ℕ) → Option Fault → (lent : Option ℕ) → List ℕ
reasoned_text false said refusal lent = said
reasoned_text true said refusal lent = said ++ refusal_reason_text refusal lent
