use Rattle.std.proofs.Common.{◌≡◌, ◌≤◌, ℕ, subst, rules}
use Rattle.mem_system.specs.{Allocates, FreshOf, outcome_of}
use Rattle.mem_system.proofs.Allocating.{allocated, has_groups}
use Rattle.mem_machine.specs.Local.{VisitMakes, visit_state}
use Rattle.mem_system.specs.Commands.{BySteps, transition}
use Rattle.mem_system.proofs.allocations.allocate.Goals as goal

pub returns-clause-allocates : goal.returns-clause-allocates
returns-clause-allocates g c =
    let t = g.N.BootName.table in
    let before = visit_state c.args.machine.now c.args.cpu.now in
    let after = visit_state c.allocate_as-answer.new.machine c.allocate_as-answer.new.cpu in
    let answer = c.allocate_as-answer.result in
    let within : c.in-Some.order ≤ 10 = search rules in
    let same : c.in-Some.order ≡ c.args.order = search rules in
    let told = c.allocate_as-answer.ensures.allocates in
    rw c.outcome_of.ensures (subst (λ (k : ℕ). BySteps VisitMakes t (Allocates c.args.sizes c.args.group k (outcome_of answer)) before after) same (record {
      steps = told.steps;
      does = allocated c.args.sizes c.args.group c.in-Some.order (transition t before told.steps after) within answer told.does;
      makes = told.makes;
    }))

pub returns-clause-groups : goal.returns-clause-groups
returns-clause-groups g c = rw c.outcome_of.ensures (has_groups c.allocate_as-answer.new.machine.ledger c.allocate_as-answer.result c.allocate_as-answer.ensures.there)

pub returns-clause-fresh : goal.returns-clause-fresh
returns-clause-fresh g c =
    let same : c.in-Some.order ≡ c.args.order = search rules in
    rw c.outcome_of.ensures (subst (λ (k : ℕ). FreshOf (outcome_of c.allocate_as-answer.result) k c.allocate_as-answer.new.cpu.fresh) same
    c.allocate_as-answer.ensures.fresh)

pub returns-in_default-clause-allocates : goal.returns-in_default-clause-allocates
returns-in_default-clause-allocates g c = search rules
