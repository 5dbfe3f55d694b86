use Rattle.std.proofs.Common.{◌&&◌, ◌++◌}
use Rattle.mem_system.specs.Visits.{locked_state}
use Rattle.reply_texts.specs.Answers.{answer_text}
use Rattle.script_replay.specs.{explanation_if, is_noted, head_named, path_removed, borrower_of, fault_in, reasoned_text}
use Rattle.script_replay.proofs.Serving.{value_text}
use Rattle.script_replay.proofs.writer.write_answer.Goals as goal

pub returns-in_default-clause-told : goal.returns-in_default-clause-told
returns-in_default-clause-told g c =
    let left = locked_state c.args.locked.now c.args.cpu.now in
    let machine = c.args.locked.now.machine in
    let said = c.args.value.now in record {
      text = reasoned_text c.args.is_explained (answer_text machine.ledger said) (fault_in said) (borrower_of (head_named c.args.command.now) machine)
          ++ explanation_if (is_noted said && c.args.is_explained) (path_removed c.args.command.now) machine;
      so = value_text g.N.BootName.table c.args.is_explained c.args.command.now said left c.in_default.not-Settled;
      added = c.write_value.ensures;
    }
