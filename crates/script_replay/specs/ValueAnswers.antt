-- What a command of a CPU does whose answer is a value, and not a text.
use Rattle.std.specs.Prelude.{ℕ, false, [], ◌∷◌}
use Rattle.group_charge.specs.Charges.{Ledger}
use Rattle.boot_words.specs.Tables.{KnownTable}
use Rattle.mem_system.specs.{HasItsGroups, locked_state}
use Rattle.reply_texts.specs.declared.line_answer.LineAnswer.{LineAnswer}
use Rattle.reply_texts.specs.declared.line_answer.LineAnswer.TheVariants as answer
use Rattle.reply_texts.specs.Answers.{answer_text}
use Rattle.script_lines.specs.declared.line.Command.{Command}
use Rattle.script_lines.specs.declared.line.Line.TheVariants.{At}
use Rattle.script_replay.specs.Answers.{ServesAnswer}
use Rattle.script_replay.specs.Lines.{AtPart, ServesAll, SystemState}
use Rattle.script_replay.specs.Terms.{terms}

-- a group whose path or file is the answer exists
abbrev pub NamesItsGroups : Ledger → LineAnswer → Type 0
NamesItsGroups ledger (answer.Served outcome) = HasItsGroups ledger outcome
NamesItsGroups ledger other = Unit {0}

-- The command of the CPU of this number was served with this answer. A script of the command alone, whatever the number
-- of its line, is replayed from the state before to the state after, and its answer is the text of this one.
pub record SaysCommand (table : KnownTable) (cpu : ℕ) (command : Command)
    (before after : SystemState) (answer : LineAnswer) : Type 0 where
  pub says : AtPart cpu (λ part left. ServesAnswer (terms table false) command
      (locked_state before.locked part) (locked_state after.locked left) answer) before.cpus after.cpus
  pub replays : (number : ℕ) → ServesAll (terms table false) (At number cpu command ∷ [])
      before after (answer_text after.locked.machine.ledger answer)
