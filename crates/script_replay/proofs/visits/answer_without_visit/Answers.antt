use Rattle.std.proofs.Common.{◌≡◌, Some, rules, subst, sym}
use Rattle.std.specs.Prelude.{IfNone, IfSome}
use Rattle.script_lines.specs.declared.line.Command.{Command}
use Rattle.script_replay.specs.{frame_path, known_system, AnswersWithoutVisitBySteps, NeedsVisit}
use Rattle.script_replay.proofs.Serving.{frame_is}
use Rattle.script_replay.proofs.Visiting.{tried_unlocked, tried_in_vain}
use Rattle.script_replay.proofs.visits.answer_without_visit.Goals as goal

pub returns-in-Some : goal.returns-in-Some
returns-in-Some g c =
    let on = known_system g.N.BootName.table c.args.visitor.now.system.now.sizes in
    let path = c.in-Some.path in
    let found : frame_path c.args.command.now ≡ Some path = search rules in
    let taken = c.take_listed in
    let is = sym (frame_is c.args.command.now path found) in record {
      answers = subst (λ (x : Command). IfSome taken.result (AnswersWithoutVisitBySteps on x c.args.cpu.now taken.new.cpu)) is taken.ensures.answers;
      needs_visit = subst (λ (x : Command). IfNone taken.result (NeedsVisit on x c.args.cpu.now taken.new.cpu)) is taken.ensures.needs_visit;
    }

pub returns-in-None : goal.returns-in-None
returns-in-None g c =
    let on = known_system g.N.BootName.table c.args.visitor.now.system.now.sizes in
    let tried = c.try_unlocked in record {
      answers = tried_unlocked on c.args.command.now c.args.cpu.now tried.new.cpu tried.result tried.ensures.answered tried.ensures.run;
      needs_visit = tried_in_vain on c.args.command.now c.args.cpu.now tried.new.cpu tried.result (search rules) tried.ensures.needs_lock
          tried.ensures.run tried.ensures.stays;
    }
