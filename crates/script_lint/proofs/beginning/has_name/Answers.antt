use Rattle.std.proofs.Common.{All, arith, subst, take}
use Rattle.std.proofs.lemmas.List.{take_all}
use Rattle.std.proofs.lemmas.List.Elements.{All-more}
use Rattle.script_lines.specs.Verb.{all_verbs}
use Rattle.script_lines.specs.declared.verb.Verb.{Verb}
use Rattle.script_lines.specs.declared.verb.Verb.TheVariants.{Mkdir}
use Rattle.script_lint.specs.{IsNamedBy, IsGoodText}
use Rattle.script_lint.proofs.beginning.has_name.Goals as goal

pub loop-verb-preserved : goal.loop-verb-preserved
loop-verb-preserved c =
    All-more (λ (verb : Verb). ¬ IsNamedBy (IsGoodText c.args.sizes.now c.args.had_go) c.args.front.now c.args.begun.now verb)
    all_verbs c.loop-verb.verb-index Mkdir c.loop-verb-test.true c.loop-verb.invariant
    (λ named. let yes = c.in_ok-is_named_by.ensures.1 named in let no = c.if-branch.false in cc)

pub returns-clause-none : goal.returns-clause-none
returns-clause-none c missed =
    let past = c.loop-verb-test.false in
    subst (All (λ (verb : Verb). ¬ IsNamedBy (IsGoodText c.args.sizes.now c.args.had_go) c.args.front.now c.args.begun.now verb))
    (take_all c.loop-verb.verb-index all_verbs (omega arith)) c.loop-verb.invariant
