use Rattle.std.proofs.Common.{sym, subst}
use Rattle.mem_system.specs.{KnownLocked, locked_state}
use Rattle.script_replay.specs.{AddsText, ServesCommand, terms}
use Rattle.script_replay.proofs.Serving.{value_settles}
use Rattle.script_replay.proofs.replays.serve_at_cpu.Goals as goal

pub write_answer-written-requires : goal.write_answer-written-requires
write_answer-written-requires g c = let served = c.serve_command-value in record {
  in_range = c.requires.in_range;
  groups = served.ensures.groups;
  settles = λ is. value_settles (terms g.N.BootName.table c.args.is_explained) c.args.command.now
      (locked_state c.args.locked.now c.args.cpu.now) (locked_state served.new.locked served.new.cpu) served.result
      served.ensures.answer is;
  last = served.ensures.last;
}

pub returns-clause-answered : goal.returns-clause-answered
returns-clause-answered g c =
    let served = c.serve_command-value in
    let said = c.write_answer-written in
    let cpu = served.new.cpu in
    subst (λ (l : KnownLocked). AddsText said.result c.args.answers.now said.new.text (ServesCommand (terms g.N.BootName.table c.args.is_explained) c.args.command.now
    (locked_state c.args.locked.now c.args.cpu.now) (locked_state l cpu))) (sym said.ensures.stays) (record {
      text = said.ensures.told.text;
      so = record {
        steps = served.ensures.answer.steps;
        writes = record {
          answer = served.result;
          answered = served.ensures.answer.answered;
          told = said.ensures.told.so;
        };
        gains = served.ensures.answer.gains;
      };
      added = said.ensures.told.added;
    })
