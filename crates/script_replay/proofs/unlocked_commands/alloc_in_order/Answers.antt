use Rattle.std.proofs.Common.{ℕ, subst}
use Rattle.reply_texts.specs.declared.steps.UnlockedAnswer.TheVariants as unlocked
use Rattle.script_lines.specs.declared.line.Command.TheVariants as command
use Rattle.script_replay.specs.Answers.{MakesUnlocked, steps_unlocked}
use Rattle.script_replay.proofs.Gaining.{both_saw, fast_made, met_gains}
use Rattle.script_replay.proofs.unlocked_commands.alloc_in_order.Goals as goal

pub returns-clause-only_saw : goal.returns-clause-only_saw
returns-clause-only_saw g c =
    both_saw g.N.BootName.table c.args.locked.now c.meet.new.self c.meet-2.new.self _ _ _ _ c.meet.ensures.locked c.meet.ensures.meets c.meet-2.ensures.locked
    c.meet-2.ensures.meets

pub returns-clause-gains : goal.returns-clause-gains
returns-clause-gains g c =
    let tried = c.alloc_fast-answer in
    let met = c.meet.new.cpu in
    let p = met.part.number in
    let made : MakesUnlocked p (steps_unlocked p (command.Fast c.args.group) (unlocked.Fast tried.result)) met.past tried.new.self.past =
    subst (λ (h : ℕ). MakesUnlocked p (steps_unlocked p (command.Fast h) (unlocked.Fast tried.result)) met.past tried.new.self.past) c.number.ensures.value
    (fast_made p met.past tried.new.self.past c.number.result tried.result met.last tried.ensures.run) in
    met_gains g.N.BootName.table c.args.locked.now c.meet.new.self c.meet-2.new.self c.args.cpu.now met tried.new.self c.meet-2.new.cpu
    (λ (n : ℕ). steps_unlocked n (command.Fast c.args.group) (unlocked.Fast tried.result)) c.number-number.ensures.in_run c.meet.ensures.part c.meet.ensures.meets
    made c.meet-2.ensures.meets
