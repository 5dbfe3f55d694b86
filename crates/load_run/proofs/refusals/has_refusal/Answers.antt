use Rattle.std.proofs.Common.{rules, tests}
use Rattle.std.proofs.lemmas.Iterator.Search.{any_from_yields_List}
use Rattle.std.proofs.lemmas.Iterator.Splits.{YieldsList-from_slice_split}
use Rattle.load_run.specs.Refusals.{is_refusal}
use Rattle.load_run.proofs.refusals.has_refusal.Goals as goal

pub returns : goal.returns
returns c =
    any_from_yields_List (is_refusal c.args.is_numbered) _ _ _ c.any.ensures.ran
    (YieldsList-from_slice_split _ _ c.args.answers.now c.split.ensures.rest c.split.ensures.done c.split.ensures.closure
    (λ x r q k. search (rules, tests))) (λ x b q k. search (rules, tests))
