use Rattle.std.proofs.Common.{◌==◌, ◌∙◌, rules, tests}
use Rattle.std.proofs.lemmas.Iterator.Consumers.{YieldsList-from_first}
use Rattle.std.proofs.lemmas.Iterator.Search.{any_from_yields_List}
use Rattle.group_tree.specs.Ancestors.{ancestors_of}
use Rattle.group_tree.proofs.AncestorLemmas.{ancestors_of-subtree}
use Rattle.group_tree.proofs.tree.Tree.in_subtree.Goals as goal

pub returns : goal.returns
returns c =
    any_from_yields_List (λ m. m == c.args.group) _ _ _ c.any.ensures.ran
    (YieldsList-from_first (λ x. x) (λ rest. rest) (ancestors_of c.args.self.now c.args.below) c.ancestors.ensures.value)
    (λ x b q k. search (rules, tests))
    ∙ ancestors_of-subtree c.args.self.now c.args.group c.args.below c.groups-groups.ensures.legal c.requires.below
