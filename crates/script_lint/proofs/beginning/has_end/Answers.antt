use Rattle.std.proofs.Common.{◌++◌, List, ℕ, All, Bor, arith, length, subst}
use Rattle.std.proofs.lemmas.List.{take_all}
use Rattle.std.proofs.lemmas.List.Elements.{All-map}
use Rattle.script_lint.specs.Lines.{IsGoodText}
use Rattle.script_lint.proofs.beginning.has_end.Goals as goal

pub returns-clause-none : goal.returns-clause-none
returns-clause-none c missed =
    let past = c.loop-end-test.false in
    All-map (λ (end : List ℕ). ¬ IsGoodText c.args.sizes.now c.args.had_go (c.args.front.now ++ end)) (λ (end : Bor (List ℕ)). end.now) c.args.ends.now
    (subst (All (λ (end : Bor (List ℕ)). ¬ IsGoodText c.args.sizes.now c.args.had_go (c.args.front.now ++ end.now)))
    (take_all c.loop-end.end-index c.args.ends.now (omega arith)) c.loop-end.invariant)
