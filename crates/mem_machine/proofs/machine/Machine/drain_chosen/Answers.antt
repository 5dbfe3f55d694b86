use Rattle.std.proofs.Common.{◌≡◌, ◌+◌, ℕ, arith, sym, ap, subst, ◌∙◌}
use Rattle.boot_words.specs.Tables.{KnownTable}
use Rattle.mem_machine.specs.Stocks.{AreDrainedIf, test_of}
use Rattle.mem_machine.proofs.DrainingAll.{DrainedSoFar, drained_end, drained_first, drained_more, drained_one, drained_skips}
use Rattle.mem_machine.proofs.machine.Machine.drain_chosen.Goals as goal

pub loop-place-init : goal.loop-place-init
loop-place-init g c = drained_first g.N.BootName.table (test_of c.args.stocks.now) c.args.self.now

pub loop-place-preserved-then-not-is_chosen : goal.loop-place-preserved-then-not-is_chosen
loop-place-preserved-then-not-is_chosen g c =
    drained_skips _ _ _ _ _ _ c.loop-place.invariant (sym c.is_chosen.ensures ∙ c.if-not-is_chosen.true)

pub loop-place-preserved : goal.loop-place-preserved
loop-place-preserved g c =
    let t = g.N.BootName.table in
    let so_far = c.loop-place.invariant in
    let bound = c.drain_noted.type_inv in
    subst (λ (n : ℕ). DrainedSoFar t (test_of c.args.stocks.now) (c.loop-place.place + 1) (c.loop-place.pages + n) c.args.self.now c.drain_noted.new.self)
    (sym c.from-pages.ensures)
    (drained_more t (test_of c.args.stocks.now) _ _ _ _ _ _ so_far (drained_one t (test_of c.args.stocks.now) (c.loop-place.place + 1) _ _ _ (sym c.is_chosen.ensures ∙ c.if-not-is_chosen.false) c.drain_noted.ensures.drains c.drain_noted.ensures.steps)
    c.drain_noted.ensures.visit (omega (arith, bound)))

pub returns : goal.returns
returns g c =
    let t = g.N.BootName.table in
    let so_far = c.loop-place.invariant in
    let all : c.loop-place.place ≡ t.cpus = omega (arith, c.loop-place-test.false, c.loop-place.auto.place-end, c.cpus-place-end.ensures.cpus, ap (λ (x : KnownTable). x.cpus) c.args.tables.now.words_are) in
    record {
      drains = drained_end _ _ _ _ _ _ so_far all;
      drained = subst (λ k. AreDrainedIf t (test_of c.args.stocks.now) k c.loop-place.self) all so_far.drained;
      visit = so_far.visit;
    }
