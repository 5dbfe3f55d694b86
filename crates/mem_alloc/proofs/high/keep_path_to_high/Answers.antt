use Rattle.std.proofs.Common.{◌≡◌, ℕ, ◌<◌, Option, List, sym, ap, ◌∙◌, subst}
use Rattle.group_tree.specs.declared.group.Group.{Group}
use Rattle.group_tree.specs.Groups.{AreGroups, has_group, parent_of}
use Rattle.group_charge.specs.Charges.{Ledger}
use Rattle.mem_reclaim.proofs.Grown.{held_after}
use Rattle.mem_alloc.proofs.HighRooms.{HighSoFar, high_begins, high_ends, high_goes_on, left_above, less_above}
use Rattle.mem_alloc.proofs.high.keep_path_to_high.Goals as goal

pub loop-next-init : goal.loop-next-init
loop-next-init g c = high_begins g.N.BootName.table c.args.group c.args.need c.args.machine.now c.requires.there

pub parent-next-requires : goal.parent-next-requires
parent-next-requires g c =
    let so = subst (λ (o : Option ℕ). HighSoFar g.N.BootName.table c.args.group c.args.need c.args.machine.now o c.loop-next.machine) c.in-Some.is c.loop-next.invariant in
    let groups : c.tree-tree.result.now ≡ c.args.machine.now.ledger.groups =
    c.tree-tree.ensures.tree ∙ ap (λ (l : Ledger). l.groups) c.charges.ensures ∙ so.keeps.groups in
    ap (λ (l : List Group). has_group l c.in-Some.above) groups ∙ so.there

pub keep_to_high-requires-clause-there : goal.keep_to_high-requires-clause-there
keep_to_high-requires-clause-there g c =
    let so = subst (λ (o : Option ℕ). HighSoFar g.N.BootName.table c.args.group c.args.need c.args.machine.now o c.loop-next.machine) c.in-Some.is c.loop-next.invariant in
    ap (λ (l : List Group). has_group l c.in-Some.above) so.keeps.groups ∙ so.there

pub keep_to_high-requires-clause-held : goal.keep_to_high-requires-clause-held
keep_to_high-requires-clause-held g c =
    let so = c.loop-next.invariant in
    held_after g.N.BootName.table c.args.machine.now so.steps c.loop-next.machine so.runs c.requires.held

pub loop-next-preserved : goal.loop-next-preserved
loop-next-preserved g c =
    let t = g.N.BootName.table in
    let m = c.args.machine.now in
    let so = subst (λ (o : Option ℕ). HighSoFar t c.args.group c.args.need m o c.loop-next.machine) c.in-Some.is c.loop-next.invariant in
    let same : c.charges.result.now.groups ≡ m.ledger.groups = ap (λ (l : Ledger). l.groups) c.charges.ensures ∙ so.keeps.groups in
    let facts = subst (λ (l : List Group). AreGroups l) same c.tree-tree.ensures.legal.groups in
    let up = subst (λ (l : List Group). c.parent-next.result ≡ parent_of l c.in-Some.above) (c.tree-tree.ensures.tree ∙ same) c.parent-next.ensures.value in
    high_goes_on t c.args.group c.args.need m facts c.in-Some.above c.parent-next.result c.loop-next.machine c.keep_to_high.new.machine so up
    c.keep_to_high.ensures.high c.keep_to_high.ensures.keeps

pub loop-next-smaller : goal.loop-next-smaller
loop-next-smaller g c =
    let m = c.args.machine.now in
    let same : c.charges.result.now.groups ≡ m.ledger.groups = ap (λ (l : Ledger). l.groups) c.charges.ensures ∙ c.loop-next.invariant.keeps.groups in
    let facts = subst (λ (l : List Group). AreGroups l) same c.tree-tree.ensures.legal.groups in
    let up = subst (λ (l : List Group). c.parent-next.result ≡ parent_of l c.in-Some.above) (c.tree-tree.ensures.tree ∙ same) c.parent-next.ensures.value in
    subst (λ (o : Option ℕ). left_above m.ledger.groups c.parent-next.result < left_above m.ledger.groups o) (sym c.in-Some.is)
    (less_above m.ledger.groups c.in-Some.above c.parent-next.result facts up)

pub returns-clause-high : goal.returns-clause-high
returns-clause-high g c =
    let t = g.N.BootName.table in
    high_ends t c.args.group c.args.need c.args.machine.now c.loop-next.machine
    (subst (λ (o : Option ℕ). HighSoFar t c.args.group c.args.need c.args.machine.now o c.loop-next.machine) c.in_default.is c.loop-next.invariant)

pub returns-clause-keeps : goal.returns-clause-keeps
returns-clause-keeps g c = c.loop-next.invariant.keeps
