-- The group's number is the group.
use Rattle.std.proofs.Common.{◌≡◌, ◌++◌, ℕ, IfOk, subst}
use Rattle.step_rules.specs.declared.phase.Phase.TheVariants.{Tail}
use Rattle.log_check.specs.ReasonTexts.{phase_text}
use Rattle.log_check.proofs.reason_text.write_tail.Goals as goal

pub returns : goal.returns
returns c =
    subst (λ (g : ℕ). IfOk c.say_two.result (λ x. c.say_two.new.text.items ≡ c.args.text.now.items ++ phase_text c.args.frame (Tail g)))
    c.number.ensures.value c.say_two.ensures
