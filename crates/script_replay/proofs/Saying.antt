-- What a command says as a value. Serves `calls`.
use Rattle.std.proofs.Common.{◌≡◌, ◌-◌, ℕ, false, Some, List, [], append-nil, arith, get_or, refl, sym}
use Rattle.std.specs.Prelude.{length, slice_set}
use Rattle.std.specs.List.{slice_get}
use Rattle.std.proofs.lemmas.Option.{slice_get_read}
use Rattle.boot_words.specs.Tables.{KnownTable}
use Rattle.mem_system.specs.{CpuInRun, IsSound, KnownLocked, LockedState, locked_state}
use Rattle.mem_system.specs.Visits.{Transition, transition}
use Rattle.reply_texts.specs.declared.line_answer.LineAnswer.{LineAnswer}
use Rattle.reply_texts.specs.declared.line_answer.LineAnswer.TheVariants as answer
use Rattle.reply_texts.specs.Answers.{answer_text, settled_text, unlocked_text}
use Rattle.reply_texts.specs.Replies.{outcome_text}
use Rattle.script_lines.specs.declared.line.Command.{Command}
use Rattle.script_lines.specs.declared.line.Command.TheVariants.{Settle, Blocks, Show, Stock, Units}
use Rattle.script_lines.specs.declared.line.Line.TheVariants.{At}
use Rattle.script_replay.specs.{AnswersCommand, IsAnswerText, IsSettledText, ServesAnswer, WritesCommand, HasValueAnswer, OnlySettles, ServesLine}
use Rattle.script_replay.specs.{SystemState, system_state, CpuCommandInRange, terms, SaysCommand}
use Rattle.script_replay.specs.Terms.{Terms}
use Rattle.script_replay.proofs.Gaining.{part_goes_on}

-- ---- the text of what is said

settled_says : (t : KnownTable) (command : Command) (left : LockedState) → HasValueAnswer command → OnlySettles command
    → IsSettledText t false command settled_text left
settled_says t Settle left has settles = refl
settled_says t Blocks left has settles = absurd has
settled_says t Show left has settles = absurd has
settled_says t Stock left has settles = absurd has
settled_says t (Units path) left has settles = absurd has
settled_says t command left has settles = absurd settles

said_text : (command : Command) (call : Transition LockedState) (answer : LineAnswer) → HasValueAnswer command
    → AnswersCommand false command call answer → IsAnswerText call.table false command answer (answer_text call.after.locked.machine.ledger answer) call.after
said_text command call (answer.Served outcome) has so = sym (append-nil (outcome_text call.after.locked.machine.ledger outcome))
said_text command call answer.Settled has so = settled_says call.table command call.after has so.answers.is_answer.0
said_text command call (answer.Unlocked said) has so = sym (append-nil (unlocked_text said))

as_text : (command : Command) (call : Transition LockedState) (answer : LineAnswer) → HasValueAnswer command → AnswersCommand false command call answer
    → WritesCommand false command call (answer_text call.after.locked.machine.ledger answer)
as_text command call answer has so = record { answer = answer; answered = so; told = said_text command call answer has so }

-- ---- a command at its part

module _ (table : KnownTable) (l m : KnownLocked) (cpus : List CpuInRun) (cpu : ℕ) (command : Command) (c d : CpuInRun) (answer : LineAnswer)
    (has : HasValueAnswer command) (is_part : slice_get cpus (cpu - 1) ≡ Some c)
    (says : ServesAnswer (terms table false) command (locked_state l c) (locked_state m d) answer)
    (sound : IsSound table m) where
  abbrev on : Terms
  on = terms table false

  abbrev before : SystemState
  before = system_state l cpus

  abbrev after : SystemState
  after = system_state m (slice_set cpus (cpu - 1) d)

  one_line : (number : ℕ) → ServesLine on (At number cpu command) before after (answer_text m.machine.ledger answer)
  one_line number = record {
    steps = says.steps;
    tells = record {
      plain = answer_text m.machine.ledger answer;
      so = record {
        part = c;
        left = d;
        is_part = is_part;
        done = as_text command (transition table (locked_state l c) says.steps (locked_state m d)) answer has says.answered;
        cpus = refl;
      };
      text_is = refl;
    };
    goes_on = part_goes_on l m cpus (cpu - 1) c d says.steps is_part says.gains;
    sound = sound;
  }

  pub command_said : SaysCommand table cpu command before after answer
  command_said = record {
    says = record { part = c; left = d; is_part = is_part; done = says; cpus = refl };
    replays = λ number. record {
      first = answer_text m.machine.ledger answer;
      rest = [];
      between = after;
      serves_first = one_line number;
      serves_rest = (refl, refl);
      text_is = sym (append-nil (answer_text m.machine.ledger answer));
    };
  }

-- the part of a CPU that is there
pub part_of : (cpus : List CpuInRun) (frames cpu : ℕ) (command : Command) (c : CpuInRun) → CpuCommandInRange frames (length cpus) cpu command
    → c ≡ get_or cpus (cpu - 1) c → slice_get cpus (cpu - 1) ≡ Some c
part_of cpus frames cpu command c there read =
    let low = there.low in
    let high = there.high in
    slice_get_read cpus (length cpus) (cpu - 1) c refl (omega arith) read
