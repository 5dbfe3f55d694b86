use Rattle.std.proofs.Common.{◌≡◌, true, refl, sym, ap, subst, arith, rules}
use Rattle.std.specs.Prelude.{IfErr}
use Rattle.group_tree.specs.Groups.{has_group}
use Rattle.group_tree.proofs.CallerLemmas.{in_subtree-above}
use Rattle.step_rules.specs.State.{State}
use Rattle.mem_machine.specs.{KnownMachine, HasDrained, IsDrained}
use Rattle.mem_alloc.proofs.Lowering.{Lowers, lowers_both, usages_fall, run_lowers}
use Rattle.mem_alloc.proofs.Killing.{relieving_lowers}
use Rattle.mem_alloc.proofs.Emptied.{relieves_drained}
use Rattle.mem_alloc.proofs.Making.{answer_is, refuses_one, so_far_fills, so_far_none, so_far_more, so_far_over}
use Rattle.mem_alloc.proofs.charging.fill_one.Goals as goal

pub tries-init : goal.tries-init
tries-init g c = (
  so_far_none g.N.BootName.table c.args.group 1 c.args.cpu.now c.args.machine.now c.reclaim_high.new.machine c.reclaim_high.ensures.high
      c.requires.may_charge.alive,
  subst HasDrained (sym (c.reclaim_high.ensures.keeps.stocks c.args.cpu.now.number)) c.requires.drained,
)

pub fill_stock-requires-clause-visit : goal.fill_stock-requires-clause-visit
fill_stock-requires-clause-visit g c = c.tries.invariant.0.visit c.requires.visit

pub fill_stock-requires-clause-pages : goal.fill_stock-requires-clause-pages
fill_stock-requires-clause-pages g c = (omega arith, omega arith)

pub returns-in_default-clause-charges : goal.returns-in_default-clause-charges
returns-in_default-clause-charges g c =
    so_far_fills g.N.BootName.table c.args.group 1 c.args.cpu.now c.args.machine.now c.tries.machine c.tries.invariant.0
    c.fill_stock.new.self c.in_default.ensures.fills c.in_default.ensures.steps

pub make_room-requires-clause-held : goal.make_room-requires-clause-held
make_room-requires-clause-held g c = c.in-Err.ensures.visit.held

pub make_room-requires-clause-there : goal.make_room-requires-clause-there
make_room-requires-clause-there g c =
    subst (λ (y : KnownMachine). has_group y.ledger.groups c.in-Err.over.group ≡ true) (sym c.in-Err.ensures.refused.machine)
    (in_subtree-above c.tries.machine.ledger.groups c.in-Err.over.group c.args.group c.in-Err.ensures.over.on_path)

pub tries-smaller : goal.tries-smaller
tries-smaller g c =
    usages_fall g.N.BootName.table c.tries.machine c.make_room.new.machine c.in-Err.over.group 1
    (lowers_both g.N.BootName.table _ _ _
    (subst (λ (y : KnownMachine). Lowers g.N.BootName.table c.tries.machine y) (sym c.in-Err.ensures.refused.machine)
    (run_lowers g.N.BootName.table c.tries.machine c.fill_stock.new.self.run))
    (relieving_lowers g.N.BootName.table c.args.group c.in-Err.over.group 1 c.fill_stock.new.self c.make_room.new.machine c.make_room.ensures.relieves)) c.make_room.ensures.below c.in-Err.ensures.over.over c.in_ok-make_room.ensures.room.room

pub tries-preserved : goal.tries-preserved
tries-preserved g c =
    let t = g.N.BootName.table in
    let refused = c.in-Err.ensures.refused in
    let relieves = c.make_room.ensures.relieves in
    let still : IsDrained t c.fill_stock.new.self c.args.cpu.now.number =
    subst HasDrained (sym (ap (λ (s : State). s.parts c.args.cpu.now.number) refused.left)) c.tries.invariant.1 in (
      so_far_more t c.args.group 1 c.args.cpu.now c.args.machine.now c.tries.machine c.tries.invariant.0 c.fill_stock.new.self c.tries.machine
          c.make_room.new.machine c.args.cpu.now c.args.cpu.now c.in-Err.over.group refused.machine refl refl c.in-Err.ensures.over refl
          refused.steps relieves c.in_ok-make_room.ensures.room (c.make_room.ensures.visit c.args.cpu.now c.in-Err.ensures.visit),
      relieves_drained t c.args.group c.in-Err.over.group 1 c.fill_stock.new.self c.make_room.new.machine relieves.steps
          c.in-Err.ensures.visit.held relieves.does c.args.cpu.now.number still,
    )

pub returns-in_err-make_room-clause-charges : goal.returns-in_err-make_room-clause-charges
returns-in_err-make_room-clause-charges g c =
    let r = c.from_residual.result in
    let x = c.in_err-make_room.field-0.0 in
    let is : IfErr r (λ e. e ≡ x) = search rules in
    refuses_one g.N.BootName.table c.args.group r x c.args.machine.now c.args.cpu.now c.make_room.new.machine
    c.args.cpu.now (answer_is r x c.from_residual.ensures.0 is) refl
    (so_far_over g.N.BootName.table c.args.group 1 c.args.cpu.now c.args.machine.now c.tries.machine c.tries.invariant.0 c.fill_stock.new.self c.tries.machine
    c.make_room.new.machine c.args.cpu.now c.args.cpu.now c.in-Err.over.group c.in-Err.ensures.refused.machine refl refl c.in-Err.ensures.over refl
    c.in-Err.ensures.refused.steps c.make_room.ensures.relieves x c.in_err-make_room.ensures.room)

pub returns-in_err-make_room-clause-visit : goal.returns-in_err-make_room-clause-visit
returns-in_err-make_room-clause-visit g c = c.make_room.ensures.visit c.args.cpu.now c.in-Err.ensures.visit
