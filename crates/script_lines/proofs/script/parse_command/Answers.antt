use Rattle.std.proofs.Common.{arith, subst}
use Rattle.std.proofs.lemmas.Grind.{common_steps}
use Rattle.script_lines.specs.{IsCut, IsNamed, its_verb, name_of_verb}
use Rattle.script_lines.proofs.Readings.{begins, from_arguments, on_none}
use Rattle.script_lines.proofs.script.parse_command.Goals as goal

pub returns-in_err-verb : goal.returns-in_err-verb
returns-in_err-verb c = on_none _ _ _ c.from_residual.ensures
    (λ command is. c.in_err-verb.ensures (its_verb command) (begins c.args.sizes.now _ command is))

pub returns-in-Some : goal.returns-in-Some
returns-in-Some c =
    let cut : IsCut c.args.text.now (name_of_verb c.in_ok-verb.verb) c.in-Some.arguments.now
    = subst (λ rest. IsNamed c.in_ok-verb.verb rest c.args.text.now) c.in-Some.is c.in_ok-verb.ensures in
    from_arguments c.args.sizes.now c.args.text.now c.in-Some.arguments.now c.in_ok-verb.verb c.parse_arguments.result cut c.parse_arguments.ensures

pub parse_arguments-requires : goal.parse_arguments-requires
parse_arguments-requires c = grind (arith, common_steps)
