use Rattle.std.proofs.Common.{ℕ}
use Rattle.script_replay.specs.Answers.{steps_tried}
use Rattle.script_replay.proofs.Gaining.{unlocked_met, both_saw, met_gains, vain_met}
use Rattle.script_replay.proofs.unlocked_commands.try_in_order.Goals as goal

pub returns-clause-answered : goal.returns-clause-answered
returns-clause-answered g c =
    let tried = c.try_unlocked-said in
    unlocked_met c.args.command.now c.args.cpu.now c.meet.new.cpu tried.new.cpu c.meet-2.new.cpu c.meet.ensures.part c.meet.ensures.last c.meet-2.ensures.part
    c.meet-2.ensures.last tried.result tried.ensures.answered

pub returns-clause-needs_lock : goal.returns-clause-needs_lock
returns-clause-needs_lock g c =
    let tried = c.try_unlocked-said in
    vain_met c.args.command.now c.args.cpu.now c.meet.new.cpu tried.new.cpu c.meet-2.new.cpu c.meet.ensures.part c.meet.ensures.last c.meet-2.ensures.part
    c.meet-2.ensures.last tried.result tried.ensures.needs_lock

pub returns-clause-only_saw : goal.returns-clause-only_saw
returns-clause-only_saw g c =
    both_saw g.N.BootName.table c.args.locked.now c.meet.new.self c.meet-2.new.self _ _ _ _ c.meet.ensures.locked c.meet.ensures.meets c.meet-2.ensures.locked
    c.meet-2.ensures.meets

pub returns-clause-gains : goal.returns-clause-gains
returns-clause-gains g c =
    let tried = c.try_unlocked-said in
    met_gains g.N.BootName.table c.args.locked.now c.meet.new.self c.meet-2.new.self c.args.cpu.now c.meet.new.cpu tried.new.cpu c.meet-2.new.cpu
    (λ (n : ℕ). steps_tried n c.args.command.now tried.result) c.number-number.ensures.in_run c.meet.ensures.part c.meet.ensures.meets tried.ensures.run
    c.meet-2.ensures.meets
