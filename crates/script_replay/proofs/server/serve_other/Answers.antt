use Rattle.std.proofs.Common.{[], rules}
use Rattle.mem_system.specs.Visits.{locked_state}
use Rattle.script_replay.specs.{AnswersUnlocked, Gains, NeedsLock, steps_unlocked, terms}
use Rattle.script_replay.proofs.Serving.{lock_served, only_settles, unlocked_served, untried, vain_is}
use Rattle.script_replay.proofs.server.serve_other.Goals as goal

pub returns-in-Some-clause-answer : goal.returns-in-Some-clause-answer
returns-in-Some-clause-answer g c =
    let command = c.args.command.now in
    let said = c.in-Some.said in
    let before = c.args.cpu.now in
    let tried = c.try_in_order in
    let alone : AnswersUnlocked command before tried.new.cpu said = search rules in
    let gains : Gains (steps_unlocked before.part.number command said) (locked_state c.args.locked.now before) (locked_state tried.new.locked tried.new.cpu) =
    search rules in
    unlocked_served (terms g.N.BootName.table c.args.is_explained) command c.args.locked.now c.watch_unlocked.new.locked before
    tried.new.cpu tried.new.locked c.number-cpu_number.result said c.number-cpu_number.ensures.number alone tried.ensures.only_saw gains c.watch_unlocked.ensures

pub serve_under_lock-requires : goal.serve_under_lock-requires
serve_under_lock-requires g c = record {
  in_range = c.requires.in_range;
  settles = λ none. only_settles c.args.command.now c.args.cpu.now c.try_in_order.new.cpu none (search rules);
}

pub returns-clause-answer : goal.returns-clause-answer
returns-clause-answer g c =
    let command = c.args.command.now in
    let tried = c.try_in_order in
    let before = c.args.cpu.now in
    let seen = locked_state tried.new.locked tried.new.cpu in
    let served = c.serve_under_lock in
    let needs : NeedsLock command before tried.new.cpu = search rules in
    let gains : Gains [] (locked_state c.args.locked.now before) seen = search rules in
    lock_served (terms g.N.BootName.table c.args.is_explained) command c.args.locked.now served.new.locked before served.new.cpu
    seen served.result
    (vain_is command c.args.locked.now before tried.new.cpu c.requires.other needs) tried.ensures.only_saw gains
    (λ settles. tried.ensures.stays (untried command settles)) served.ensures.served
