-- Serves the contract of `put_pin`: the pin is put between two meetings, and the watch takes the step.
use Rattle.std.proofs.Common.{◌≡◌, ◌∙◌, [], ◌∷◌, ap, sym}
use Rattle.step_rules.specs.declared.step.Action.TheVariants as step
use Rattle.step_rules.specs.After.{cpu_makes}
use Rattle.mem_history.specs.Leading.{put_answer}
use Rattle.load_run.proofs.Putting.{put_met}
use Rattle.load_run.proofs.boot_end.put_pin.Goals.{in-Left, in-Last}
use Rattle.load_run.proofs.boot_end.put_pin.Goals as goal

pub returns-clause-puts : goal.returns-clause-puts
returns-clause-puts g c =
    let said : c.match-put.answer ≡ put_answer c.put.result = elim c.match-put.branch [
      | in-Left w ↦ w.answer-is ∙ ap put_answer (sym w.in-Left.is)
      | in-Last w ↦ w.answer-is ∙ ap put_answer (sym w.in-Last.is)
    ] in
    let took = c.take_step.ensures in
    put_met g.N.BootName.table c.args.locked.now c.meet.new.self c.meet-2.new.self c.take_step.new.self c.args.cpu.now c.meet.new.cpu c.put.new.self
    c.meet-2.new.cpu c.args.frame c.put.result (cpu_makes c.number-cpu_number.result (step.Put c.number-frame.result) c.match-put.answer)
    c.number-cpu_number.ensures.in_run c.meet.ensures.locked c.meet.ensures.part c.meet.ensures.meets c.put.ensures.answer c.put.ensures.run
    c.meet-2.ensures.locked c.meet-2.ensures.part c.meet-2.ensures.meets (record { locked = took.locked; watched = took.watched })
    (λ i. cpu_makes (c.number-cpu_number.ensures.number i) (step.Put (c.number-frame.ensures i)) (said i) ∷ [])
    (c.meet-2.ensures.last ∙ c.put.ensures.last ∙ c.meet.ensures.last)
