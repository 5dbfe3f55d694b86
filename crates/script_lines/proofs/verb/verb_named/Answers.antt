use Rattle.std.proofs.Common.{sym, ap, ◌∙◌}
use Rattle.script_lines.specs.Verb.{verb_coded}
use Rattle.script_lines.proofs.verb.verb_named.Goals as goal

pub returns-then-found-name : goal.returns-then-found-name
returns-then-found-name c = sym c.in-Some.ensures.value ∙ c.requires c.in-Some.found.now.code ∙ ap verb_coded c.if-found-name.true
