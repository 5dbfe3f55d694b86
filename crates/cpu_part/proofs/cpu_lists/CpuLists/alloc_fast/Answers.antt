use Rattle.std.proofs.Common.{◌<◌, ◌≤◌, length, ap, sym, subst, refl, arith, rules}
use Rattle.step_rules.specs.declared.step.Action.TheVariants.{Consume}
use Rattle.step_rules.specs.State.{times}
use Rattle.step_rules.proofs.Lists.{times_same}
use Rattle.stock_word.specs.declared.answers.Consume.TheVariants as consumes
use Rattle.boot_words.specs.{MayDo, ConsumesPage, KnownTable}
use Rattle.cpu_part.specs.Known.{KnowsItsPart}
use Rattle.cpu_part.proofs.Knowing.{front_inside, knows_drained, knows_took, may_consume}
use Rattle.cpu_part.proofs.cpu_lists.CpuLists.alloc_fast.Goals as goal

pub consume-requires-clause-legal : goal.consume-requires-clause-legal
consume-requires-clause-legal g c =
    let bound = c.self.invariant.0.fresh_bound in
    let short : length c.self.inside.fresh.items < 32 = omega arith in
    let some : 1 ≤ length c.self.inside.list.items = search rules in
    let knows = subst (KnowsItsPart _ _) (sym c.self.view_is) c.requires.knows in
    subst (λ (u : KnownTable). MayDo u c.args.seat.now.past (Consume c.args.group)) (sym c.args.tables.now.words_are)
    (may_consume _ _ _ knows c.args.group some short)

pub returns-in-Drained-clause-knows : goal.returns-in-Drained-clause-knows
returns-in-Drained-clause-knows g c =
    let told = subst (λ (u : KnownTable). ConsumesPage u c.args.seat.now c.args.group consumes.Drained c.consume.new.cpu) c.args.tables.now.words_are
    c.in-Drained.ensures in
    knows_drained _ _ _ c.requires.knows (Consume c.args.group) c.consume.new.cpu tt (λ s q. refl) told.1

pub returns-in-Took-clause-frame : goal.returns-in-Took-clause-frame
returns-in-Took-clause-frame g c =
    let knows = subst (KnowsItsPart _ _) (sym c.self.view_is) c.requires.knows in
    let f = c.freshen.result in
    front_inside _ _ _ knows f (let here = ap (times f) c.freshen.ensures.front in let once = times_same f in omega (arith, here, once))

pub returns-in-Took-clause-knows : goal.returns-in-Took-clause-knows
returns-in-Took-clause-knows g c =
    let knows = subst (KnowsItsPart _ _) (sym c.self.view_is) c.requires.knows in
    let told = subst (λ (u : KnownTable). ConsumesPage u c.args.seat.now c.args.group consumes.Took c.consume.new.cpu) c.args.tables.now.words_are
    c.in-Took.ensures in
    knows_took _ _ _ knows c.args.group c.freshen.result told.0 c.freshen.new.list.items c.freshen.new.fresh.items c.consume.new.cpu told.2
    c.freshen.ensures.front c.freshen.ensures.fresh
