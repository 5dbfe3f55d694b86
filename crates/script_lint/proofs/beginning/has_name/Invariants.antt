use Rattle.std.proofs.Common.{All, take}
use Rattle.script_lines.specs.Verb.{all_verbs}
use Rattle.script_lint.specs.{IsNamedBy, IsGoodText}
use Rattle.script_lint.proofs.beginning.has_name.Given as goal

-- the names so far don't make a good line
abbrev pub invariant-loop-verb : goal.invariant-loop-verb
invariant-loop-verb l = All (λ verb. ¬ IsNamedBy (IsGoodText l.sizes l.had_go) l.front l.begun verb) (take l.verb-index all_verbs)
