use Rattle.std.proofs.Common.{refl, ap, ◌∙◌, arith}
use Rattle.cpu_part.specs.Cpus.{KnownCpuLists}
use Rattle.mem_machine.specs.Steps.{refill_steps}
use Rattle.mem_alloc.specs.Frames.{LendsBatch, LendsNoFrame}
use Rattle.mem_alloc.proofs.Rounding.{rounds_none, rounds_done, rounds_succeed, rounds_end, rounds_more}
use Rattle.mem_alloc.proofs.Filling.{lent_none, lent_batch, lent_stock, no_frame_spares, spared_stock}
use Rattle.mem_alloc.proofs.frames.make_refill_rounds.Goals as goal

pub loop-round-init : goal.loop-round-init
loop-round-init g c =
    (rounds_none g.N.BootName.table 1 LendsNoFrame (λ _. LendsBatch c.args.batch) c.args.machine.now c.args.cpu.now, refl)

pub reclaim_anywhere-freed-requires : goal.reclaim_anywhere-freed-requires
reclaim_anywhere-freed-requires g c =
    record { held = (c.loop-round.invariant.0.visit c.requires.visit).held }

pub refill-requires-clause-visit : goal.refill-requires-clause-visit
refill-requires-clause-visit g c =
    c.reclaim_anywhere-freed.ensures.keeps.visit c.loop-round.cpu (c.loop-round.invariant.0.visit c.requires.visit)

pub returns-then-refill-gt0-clause-refills : goal.returns-then-refill-gt0-clause-refills
returns-then-refill-gt0-clause-refills g c =
    let t = g.N.BootName.table in
    let done = c.refill.ensures in
    let many = c.if-refill-gt0.true in
    rounds_succeed t 1 LendsNoFrame (λ _. LendsBatch c.args.batch) c.args.machine.now c.args.cpu.now c.loop-round.round
    c.loop-round.machine c.loop-round.cpu c.loop-round.invariant.0 c.loop-round-test.true c.reclaim_anywhere-freed.result
    c.reclaim_anywhere-freed.new.machine c.reclaim_anywhere-freed.ensures.reclaims c.reclaim_anywhere-freed.ensures.missed
    c.reclaim_anywhere-freed.ensures.keeps
    c.refill.new.self c.refill.new.cpu (refill_steps c.loop-round.cpu.number done.refills.frames) done.refills.steps 0
    (lent_batch t c.refill.result c.args.batch _ _ _ _ done.refills (omega (arith, many)) done.at_most done.fewer_only_at_the_end)

pub returns-then-freed-eq0-clause-refills : goal.returns-then-freed-eq0-clause-refills
returns-then-freed-eq0-clause-refills g c =
    let t = g.N.BootName.table in
    let done = c.refill.ensures in
    let none = lent_none t c.refill.result c.args.batch _ _ _ _ done.refills c.if-refill-gt0.false done.fewer_only_at_the_end
    c.requires.some in
    rounds_end t 1 LendsNoFrame (λ _. LendsBatch c.args.batch) c.args.machine.now c.args.cpu.now c.loop-round.round
    c.loop-round.machine c.loop-round.cpu c.loop-round.invariant.0 c.loop-round-test.true c.reclaim_anywhere-freed.result
    c.reclaim_anywhere-freed.new.machine c.reclaim_anywhere-freed.ensures.reclaims c.reclaim_anywhere-freed.ensures.missed
    c.reclaim_anywhere-freed.ensures.keeps
    c.refill.new.self c.refill.new.cpu none.steps none.makes none.does c.if-freed-eq0.true

pub loop-round-preserved : goal.loop-round-preserved
loop-round-preserved g c =
    let t = g.N.BootName.table in
    let done = c.refill.ensures in
    let none = lent_none t c.refill.result c.args.batch _ _ _ _ done.refills c.if-refill-gt0.false done.fewer_only_at_the_end
    c.requires.some in (
      rounds_more t 1 LendsNoFrame (λ _. LendsBatch c.args.batch) c.args.machine.now c.args.cpu.now c.loop-round.round
          c.loop-round.machine c.loop-round.cpu c.loop-round.invariant.0 c.loop-round-test.true c.reclaim_anywhere-freed.result
          c.reclaim_anywhere-freed.new.machine c.reclaim_anywhere-freed.ensures.reclaims c.reclaim_anywhere-freed.ensures.missed
          c.reclaim_anywhere-freed.ensures.keeps
          c.refill.new.self c.refill.new.cpu none.steps none.makes none.does c.if-freed-eq0.false
          (no_frame_spares t _ _ _ _ none.steps none.does) done.visit,
      lent_stock t done.refills.frames _ _ _ _ (c.reclaim_anywhere-freed.ensures.keeps.visit c.loop-round.cpu (c.loop-round.invariant.0.visit c.requires.visit)).held
          done.refills.steps done.refills.lends
          ∙ spared_stock t _ _ c.loop-round.cpu (c.loop-round.invariant.0.visit c.requires.visit) c.reclaim_anywhere-freed.ensures.keeps
          (ap (λ (e : KnownCpuLists). e.fresh) c.loop-round.invariant.0.spares.cpu ∙ c.requires.none_fresh) ∙ c.loop-round.invariant.1,
    )

pub returns-clause-refills : goal.returns-clause-refills
returns-clause-refills g c =
    rounds_done g.N.BootName.table 1 LendsNoFrame (λ _. LendsBatch c.args.batch) c.args.machine.now c.args.cpu.now
    c.loop-round.round c.loop-round.machine c.loop-round.cpu c.loop-round.invariant.0 c.loop-round-test.false

pub returns-clause-visit : goal.returns-clause-visit
returns-clause-visit g c = c.loop-round.invariant.0.visit c.requires.visit

pub returns-then-refill-gt0-clause-stock : goal.returns-then-refill-gt0-clause-stock
returns-then-refill-gt0-clause-stock g c =
    let t = g.N.BootName.table in
    let done = c.refill.ensures.refills in
    let visit = c.loop-round.invariant.0.visit c.requires.visit in
    let keeps = c.reclaim_anywhere-freed.ensures.keeps in
    lent_stock t done.frames _ _ _ _ (keeps.visit c.loop-round.cpu visit).held done.steps done.lends
    ∙ spared_stock t _ _ c.loop-round.cpu visit keeps (ap (λ (e : KnownCpuLists). e.fresh) c.loop-round.invariant.0.spares.cpu ∙ c.requires.none_fresh)
    ∙ c.loop-round.invariant.1

pub returns-then-freed-eq0-clause-stock : goal.returns-then-freed-eq0-clause-stock
returns-then-freed-eq0-clause-stock g c =
    let t = g.N.BootName.table in
    let done = c.refill.ensures.refills in
    let visit = c.loop-round.invariant.0.visit c.requires.visit in
    let keeps = c.reclaim_anywhere-freed.ensures.keeps in
    lent_stock t done.frames _ _ _ _ (keeps.visit c.loop-round.cpu visit).held done.steps done.lends
    ∙ spared_stock t _ _ c.loop-round.cpu visit keeps (ap (λ (e : KnownCpuLists). e.fresh) c.loop-round.invariant.0.spares.cpu ∙ c.requires.none_fresh)
    ∙ c.loop-round.invariant.1

pub returns-clause-stock : goal.returns-clause-stock
returns-clause-stock g c = c.loop-round.invariant.1
