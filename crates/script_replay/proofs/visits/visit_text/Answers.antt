use Rattle.std.proofs.Common.{rules}
use Rattle.reply_texts.specs.Answers.{unlocked_text}
use Rattle.script_replay.specs.{known_system, AnswersWithoutVisitBySteps, NeedsVisit}
use Rattle.script_replay.proofs.Visiting.{said_unlocked, said_by_visit, visit_settles}
use Rattle.script_replay.proofs.visits.visit_text.Goals as goal

pub returns-in-Some : goal.returns-in-Some
returns-in-Some g c =
    let on = known_system g.N.BootName.table c.args.visitor.now.system.now.sizes in
    let said = c.in-Some.said in
    let alone : AnswersWithoutVisitBySteps on c.args.command.now c.args.cpu.now c.answer_without_visit.new.cpu said = search rules in record {
      answered = record {
        text = unlocked_text said;
        so = said_unlocked on c.args.command.now c.args.cpu.now c.answer_without_visit.new.cpu said alone;
        added = c.write_unlocked.ensures;
      };
    }

pub write_by_visit-requires : goal.write_by_visit-requires
write_by_visit-requires g c =
    let on = known_system g.N.BootName.table c.args.visitor.now.system.now.sizes in
    let needs : NeedsVisit on c.args.command.now c.args.cpu.now c.answer_without_visit.new.cpu = search rules in record {
      in_range = c.requires.in_range;
      settles = visit_settles on c.args.command.now c.args.cpu.now c.answer_without_visit.new.cpu needs.tried;
    }

pub returns-in-None : goal.returns-in-None
returns-in-None g c =
    let on = known_system g.N.BootName.table c.args.visitor.now.system.now.sizes in
    let needs : NeedsVisit on c.args.command.now c.args.cpu.now c.answer_without_visit.new.cpu = search rules in
    let written = c.write_by_visit.ensures.answered in record {
      answered = record {
        text = written.text;
        so = said_by_visit on c.args.command.now c.args.cpu.now c.write_by_visit.new.cpu c.answer_without_visit.new.cpu written.text needs written.so;
        added = written.added;
      };
    }
