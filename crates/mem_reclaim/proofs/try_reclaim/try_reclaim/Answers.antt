use Rattle.std.proofs.Common.{ap, sym, ◌∙◌}
use Rattle.lru_lists.specs.declared.record.Entry.{Entry}
use Rattle.mem_reclaim.proofs.Meeting.{meets_dirty, meets_spared, meets_tried}
use Rattle.mem_reclaim.proofs.Keeping.{keeps_try}
use Rattle.mem_reclaim.proofs.FewMore.{evicted_few, units_few}
use Rattle.mem_reclaim.proofs.try_reclaim.try_reclaim.Goals as goal

pub returns-clause-attempts : goal.returns-clause-attempts
returns-clause-attempts g c =
    meets_tried g.N.BootName.table c.args.spares_marked c.args.group c.args.frame c.args.unit _ _ c.evict.result c.unwrap_or.result c.prove_consistent.ensures c.requires.held c.if-unit.false
    (sym c.is_spared.ensures ∙ c.if-is_spared.false) (ap (λ (x : Entry). x.number) c.requires.unit) c.evict.ensures.evicts c.evict.ensures.steps
    c.unwrap_or.ensures

pub returns-clause-keeps : goal.returns-clause-keeps
returns-clause-keeps g c =
    keeps_try g.N.BootName.table _ _ c.args.frame c.evict.ensures.visit c.requires.held c.evict.result c.evict.ensures.evicts c.evict.ensures.steps
    (sym (ap (λ (x : Entry). x.is_dirty) c.requires.unit) ∙ c.if-unit.false)

pub returns-then-is_spared-clause-attempts : goal.returns-then-is_spared-clause-attempts
returns-then-is_spared-clause-attempts g c =
    meets_spared g.N.BootName.table c.args.spares_marked c.args.group c.args.frame c.args.unit c.args.machine.now c.renew.new.self c.if-unit.false
    (sym c.is_spared.ensures ∙ c.if-is_spared.true) (ap (λ (x : Entry). x.number) c.requires.unit) c.renew.ensures.renews c.renew.ensures.steps

pub returns-then-unit-clause-attempts : goal.returns-then-unit-clause-attempts
returns-then-unit-clause-attempts g c =
    meets_dirty g.N.BootName.table c.args.spares_marked c.args.group c.args.unit c.args.machine.now c.if-unit.true

pub returns-clause-few : goal.returns-clause-few
returns-clause-few g c =
    evicted_few c.args.frame c.evict.result c.args.machine.now c.evict.new.self (units_few g.N.BootName.table c.args.machine.now c.prove_consistent.ensures)
    c.evict.ensures.evicts c.unwrap_or.result c.unwrap_or.ensures
