use Rattle.std.proofs.Common.{arith}
use Rattle.mem_alloc.proofs.Filling.{batch_fits, one_charged, still_may}
use Rattle.mem_alloc.proofs.charging.fill_drained_stock.Goals as goal

pub fill_batch-requires-clause-may_fill : goal.fill_batch-requires-clause-may_fill
fill_batch-requires-clause-may_fill g c =
    let may = c.requires.may_pay in
    let high = may.sizes.stock_high in
    record {
      visit = may.visit;
      may_charge = record { there = may.there; alive = may.alive; fits = c.prove_room.ensures.room c.args.sizes.stock (omega (arith, high)) };
      none_fresh = may.none_fresh;
      drained = c.requires.drained;
    }

pub returns-then-fill_batch-clause-charges : goal.returns-then-fill_batch-clause-charges
returns-then-fill_batch-clause-charges g c =
    batch_fits g.N.BootName.table c.args.sizes c.args.group c.args.machine.now c.fill_batch.new.machine c.args.cpu.now
    (c.fill_batch.ensures.fills c.if-fill_batch.true)

pub fill_one-requires : goal.fill_one-requires
fill_one-requires g c =
    let may = c.requires.may_pay in
    let lacks = c.fill_batch.ensures.lacks c.if-fill_batch.false in
    record {
      visit = c.fill_batch.ensures.visit;
      may_charge = still_may g.N.BootName.table c.args.group c.args.sizes.stock 1 c.args.machine.now c.fill_batch.new.machine lacks.steps lacks.does
          (record { there = may.there; alive = may.alive; fits = c.prove_room.ensures.room 1 (omega arith) });
      none_fresh = may.none_fresh;
      drained = c.fill_batch.ensures.drained c.if-fill_batch.false;
    }

pub returns-clause-charges : goal.returns-clause-charges
returns-clause-charges g c =
    one_charged g.N.BootName.table c.args.sizes c.args.group c.args.machine.now c.fill_batch.new.machine c.fill_one.new.machine c.args.cpu.now c.args.cpu.now
    (c.fill_batch.ensures.lacks c.if-fill_batch.false) c.fill_one.result c.fill_one.ensures.charges
