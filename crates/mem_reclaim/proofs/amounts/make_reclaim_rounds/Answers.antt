use Rattle.std.proofs.Common.{◌≡◌, ◌≢◌, ℕ, ◌-◌, ◌^◌, ◌<◌, arith}
use Rattle.group_charge.specs.Charges.{current_of}
use Rattle.mem_reclaim.specs.Rounds.{pages_missing}
use Rattle.mem_reclaim.proofs.Rounding.{asks_missing, rounds_none, rounds_enough, rounds_more, rounds_end, rounds_done}
use Rattle.mem_reclaim.proofs.Grown.{held_after}
use Rattle.mem_reclaim.proofs.amounts.make_reclaim_rounds.Goals as goal

pub loop-round-init : goal.loop-round-init
loop-round-init g c =
    rounds_none g.N.BootName.table (λ n. n) c.args.group c.args.asked (current_of c.args.machine.now.ledger c.args.group)
    c.args.machine.now

pub returns-then-asked-freed-clause-rounds : goal.returns-then-asked-freed-clause-rounds
returns-then-asked-freed-clause-rounds g c =
    let start : ℕ = current_of c.args.machine.now.ledger c.args.group in
    let usage = c.loop-round.invariant.usage in
    let enough = c.if-asked-freed.true in
    let none : pages_missing c.args.group c.args.asked start c.loop-round.machine.ledger ≡ 0 = omega (arith, usage, enough) in
    let h = rounds_enough g.N.BootName.table (λ n. n) c.args.group c.args.asked start c.args.machine.now c.loop-round.round
    c.loop-round.freed c.loop-round.machine c.loop-round.invariant c.loop-round-test.true asks_missing none in
    record { steps = h.rounds.steps; does = h.rounds.does; moves = h.rounds.moves }

pub reclaim_round-pages-requires-clause-held : goal.reclaim_round-pages-requires-clause-held
reclaim_round-pages-requires-clause-held g c =
    let so = c.loop-round.invariant in
    held_after g.N.BootName.table c.args.machine.now so.steps c.loop-round.machine so.moves.runs c.requires.held

pub returns-then-pages-eq0 : goal.returns-then-pages-eq0
returns-then-pages-eq0 g c =
    let start : ℕ = current_of c.args.machine.now.ledger c.args.group in
    let want : ℕ = c.args.asked - c.loop-round.freed in
    let e = c.reclaim_round-pages.ensures in
    let before = c.loop-round.invariant.usage in
    let more = c.if-asked-freed.false in
    let wants : want ≡ pages_missing c.args.group c.args.asked start c.loop-round.machine.ledger = omega (arith, before, more) in
    let wanted : want ≢ 0 = λ none. omega (arith, more, none) in
    let h = rounds_end g.N.BootName.table (λ n. n) c.args.group c.args.asked start c.args.machine.now c.loop-round.round
    c.loop-round.freed c.loop-round.machine c.loop-round.invariant c.loop-round-test.true want
    c.reclaim_round-pages.result.pages c.reclaim_round-pages.new.machine c.reclaim_round-pages.result.tried_all asks_missing wants wanted e.makes
    e.tried_all e.missed e.usage e.keeps c.if-pages-eq0.true in
    record {
      rounds = record { steps = h.rounds.steps; does = h.rounds.does; moves = h.rounds.moves };
      missed = λ less. let after = h.usage in h.missed (omega (arith, less, after));
      usage = h.usage;
      keeps = h.keeps;
    }

pub loop-round-preserved : goal.loop-round-preserved
loop-round-preserved g c =
    let start : ℕ = current_of c.args.machine.now.ledger c.args.group in
    let want : ℕ = c.args.asked - c.loop-round.freed in
    let e = c.reclaim_round-pages.ensures in
    let before = c.loop-round.invariant.usage in
    let more = c.if-asked-freed.false in
    let wants : want ≡ pages_missing c.args.group c.args.asked start c.loop-round.machine.ledger = omega (arith, before, more) in
    let wanted : want ≢ 0 = λ none. omega (arith, more, none) in
    let fits = c.prove_usage.ensures in
    let low : current_of c.loop-round.machine.ledger c.args.group < 2 ^ 32 = omega (arith, fits, before) in
    rounds_more g.N.BootName.table (λ n. n) c.args.group c.args.asked start c.args.machine.now c.loop-round.round
    c.loop-round.freed c.loop-round.machine c.loop-round.invariant c.loop-round-test.true want
    c.reclaim_round-pages.result.pages c.reclaim_round-pages.new.machine c.reclaim_round-pages.result.tried_all asks_missing wants wanted e.makes
    e.tried_all e.missed e.usage e.keeps c.if-pages-eq0.false low

pub returns : goal.returns
returns g c =
    let start : ℕ = current_of c.args.machine.now.ledger c.args.group in
    let h = rounds_done g.N.BootName.table (λ n. n) c.args.group c.args.asked start c.args.machine.now c.loop-round.round
    c.loop-round.freed c.loop-round.machine c.loop-round.invariant c.loop-round-test.false in
    record {
      rounds = record { steps = h.rounds.steps; does = h.rounds.does; moves = h.rounds.moves };
      missed = λ less. let after = h.usage in h.missed (omega (arith, less, after));
      usage = h.usage;
      keeps = h.keeps;
    }
