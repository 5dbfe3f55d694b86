use Rattle.std.proofs.Common.{◌≡◌, true, List, [], ◌∷◌, rules, false, refl, ap, ◌∙◌, arith}
use Rattle.group_tree.specs.declared.group.Group.{Group}
use Rattle.group_tree.specs.Groups.{in_subtree}
use Rattle.group_tree.proofs.CallerLemmas.{in_subtree-refl}
use Rattle.lru_lists.specs.declared.record.LruList.TheVariants.{Inactive, Active}
use Rattle.mem_reclaim.specs.Units.{ScansList}
use Rattle.mem_reclaim.proofs.Wanting.{first_enough, both_done}
use Rattle.mem_reclaim.proofs.Keeping.{keeps_both, only_both}
use Rattle.mem_reclaim.proofs.Passing.{usage_both, both_missed}
use Rattle.mem_reclaim.proofs.Grown.{held_after}
use Rattle.mem_reclaim.proofs.passes.scan_both.Goals as goal

pub returns-then-want-inactive-clause-passes : goal.returns-then-want-inactive-clause-passes
returns-then-want-inactive-clause-passes g c =
    first_enough g.N.BootName.table (ScansList false c.args.group) Inactive (Active ∷ []) c.args.want c.args.machine.now c.requires.wanted c.scan-inactive.result
    c.scan-inactive.new.machine c.scan-inactive.ensures.scans c.if-want-inactive.true

pub scan-active-requires-clause-held : goal.scan-active-requires-clause-held
scan-active-requires-clause-held g c =
    let first = c.scan-inactive.ensures.scans in
    held_after g.N.BootName.table c.args.machine.now first.steps c.scan-inactive.new.machine first.moves.runs c.requires.held

pub returns-clause-passes : goal.returns-clause-passes
returns-clause-passes g c =
    both_done g.N.BootName.table (ScansList false c.args.group) Inactive Active c.args.want c.args.machine.now c.requires.wanted c.scan-inactive.result
    c.scan-inactive.new.machine c.scan-inactive.ensures.scans c.if-want-inactive.false c.scan-active.result c.scan-active.new.machine c.scan-active.ensures.scans

pub returns-clause-keeps : goal.returns-clause-keeps
returns-clause-keeps g c = keeps_both g.N.BootName.table c.args.machine.now c.scan-inactive.new.machine c.scan-active.new.machine c.scan-inactive.ensures.keeps c.scan-active.ensures.keeps

pub returns-clause-usage : goal.returns-clause-usage
returns-clause-usage g c x =
    usage_both g.N.BootName.table c.args.machine.now c.scan-inactive.new.machine c.scan-active.new.machine c.args.group x c.scan-inactive.result c.scan-active.result c.scan-inactive.ensures.keeps (c.scan-inactive.ensures.usage x)
    (c.scan-active.ensures.usage x)

pub returns-clause-leaves : goal.returns-clause-leaves
returns-clause-leaves g c = only_both c.args.machine.now c.scan-inactive.new.machine c.scan-active.new.machine (c.scan-inactive.ensures.leaves refl) (c.scan-active.ensures.leaves refl)

pub returns-clause-missed : goal.returns-clause-missed
returns-clause-missed g c less =
    both_missed g.N.BootName.table c.args.machine.now c.scan-inactive.new.machine c.scan-active.new.machine c.args.group c.scan-inactive.ensures.keeps c.scan-active.ensures.keeps (c.scan-active.ensures.leaves refl)
    (c.scan-inactive.ensures.missed refl c.if-want-inactive.false) (c.scan-active.ensures.missed refl (let a = c.if-want-inactive.false in omega (arith, less, a)))

pub returns-clause-few : goal.returns-clause-few
returns-clause-few g c = search rules

pub returns-then-want-inactive-clause-few : goal.returns-then-want-inactive-clause-few
returns-then-want-inactive-clause-few g c = search rules

pub returns-then-want-inactive-clause-missed : goal.returns-then-want-inactive-clause-missed
returns-then-want-inactive-clause-missed g c = search rules

pub overflow_add-result : goal.overflow_add-result
overflow_add-result g c =
    let own : in_subtree c.args.machine.now.ledger.groups c.args.group c.args.group ≡ true = in_subtree-refl c.args.machine.now.ledger.groups c.args.group c.requires.there in
    let first = c.scan-inactive.ensures.usage c.args.group own in
    let second = c.scan-active.ensures.usage c.args.group
    (ap (λ (groups : List Group). in_subtree groups c.args.group c.args.group) c.scan-inactive.ensures.keeps.groups ∙ own) in
    let fits = c.prove_usage.ensures in
    omega (arith, first, second, fits)
