use Rattle.std.proofs.Common.{All, ◌++◌, take}
use Rattle.script_lint.specs.Lines.{IsGoodText}
use Rattle.script_lint.proofs.beginning.has_end.Given as goal

-- the ends so far don't make a good line
abbrev pub invariant-loop-end : goal.invariant-loop-end
invariant-loop-end l = All (λ end. ¬ IsGoodText l.sizes l.had_go (l.front ++ end.now)) (take l.end-index l.ends)
