use Rattle.std.proofs.Common.{◌≡◌, ◌<◌, ◌^◌, true, sym, ap, ◌∙◌, subst, arith}
use Rattle.group_tree.specs.Groups.{has_group}
use Rattle.group_charge.specs.Charges.{Ledger, current_of}
use Rattle.mem_reclaim.specs.Rounds.{pages_wanted, at_least}
use Rattle.mem_reclaim.proofs.Rounding.{asks_batch, rounds_none, rounds_enough, rounds_more, rounds_end, rounds_done}
use Rattle.mem_reclaim.proofs.Grown.{held_after}
use Rattle.mem_reclaim.proofs.rounds.reclaim_in_batches.Goals as goal

pub loop-round-init : goal.loop-round-init
loop-round-init g c = rounds_none g.N.BootName.table (at_least c.args.batch) c.args.group c.args.need c.args.limit c.args.machine.now

pub wanted-want-requires : goal.wanted-want-requires
wanted-want-requires g c =
    subst (λ (l : Ledger). has_group l.groups c.args.group ≡ true) (sym c.charges.ensures)
    (ap (λ l. has_group l c.args.group) c.loop-round.invariant.keeps.groups ∙ c.requires.there)

pub returns-then-want-eq0 : goal.returns-then-want-eq0
returns-then-want-eq0 g c =
    let none : pages_wanted c.args.batch c.args.group c.args.need c.args.limit c.loop-round.machine.ledger ≡ 0 = sym (c.wanted-want.ensures.wanted ∙ ap (pages_wanted c.args.batch c.args.group c.args.need c.args.limit) c.charges.ensures) ∙ c.if-want-eq0.true in
    let h = rounds_enough g.N.BootName.table (at_least c.args.batch) c.args.group c.args.need c.args.limit c.args.machine.now c.loop-round.round c.loop-round.freed
    c.loop-round.machine c.loop-round.invariant c.loop-round-test.true (asks_batch c.args.batch) none in
    record { rounds = h.rounds; missed = h.missed; usage = h.usage; keeps = h.keeps }

pub reclaim_round-pages-requires : goal.reclaim_round-pages-requires
reclaim_round-pages-requires g c =
    let so = c.loop-round.invariant in record {
      there = ap (λ l. has_group l c.args.group) so.keeps.groups ∙ c.requires.there;
      held = held_after g.N.BootName.table c.args.machine.now so.steps c.loop-round.machine so.moves.runs c.requires.held;
    }

pub overflow_add-freed : goal.overflow_add-freed
overflow_add-freed g c =
    let low : current_of c.loop-round.machine.ledger c.args.group < 2 ^ 32 =
    subst (λ (l : Ledger). current_of l c.args.group < 2 ^ 32) c.charges.ensures c.wanted-want.ensures.few in
    let few = c.loop-round.invariant.few in
    let usage = c.reclaim_round-pages.ensures.usage in
    let left = c.loop-round-test.true in
    omega (arith, low, few, usage, left)

pub returns-then-pages-eq0 : goal.returns-then-pages-eq0
returns-then-pages-eq0 g c =
    let e = c.reclaim_round-pages.ensures in
    let wants : c.wanted-want.result ≡ pages_wanted c.args.batch c.args.group c.args.need c.args.limit c.loop-round.machine.ledger = c.wanted-want.ensures.wanted ∙ ap (pages_wanted c.args.batch c.args.group c.args.need c.args.limit) c.charges.ensures in
    let h = rounds_end g.N.BootName.table (at_least c.args.batch) c.args.group c.args.need c.args.limit c.args.machine.now c.loop-round.round c.loop-round.freed
    c.loop-round.machine c.loop-round.invariant c.loop-round-test.true c.wanted-want.result c.reclaim_round-pages.result.pages c.reclaim_round-pages.new.machine
    c.reclaim_round-pages.result.tried_all (asks_batch c.args.batch) wants c.if-want-eq0.false e.makes e.tried_all e.missed e.usage e.keeps c.if-pages-eq0.true in
    record { rounds = h.rounds; missed = h.missed; usage = h.usage; keeps = h.keeps }

pub loop-round-preserved : goal.loop-round-preserved
loop-round-preserved g c =
    let e = c.reclaim_round-pages.ensures in
    let wants : c.wanted-want.result ≡ pages_wanted c.args.batch c.args.group c.args.need c.args.limit c.loop-round.machine.ledger = c.wanted-want.ensures.wanted ∙ ap (pages_wanted c.args.batch c.args.group c.args.need c.args.limit) c.charges.ensures in
    let low : current_of c.loop-round.machine.ledger c.args.group < 2 ^ 32 =
    subst (λ (l : Ledger). current_of l c.args.group < 2 ^ 32) c.charges.ensures c.wanted-want.ensures.few in
    rounds_more g.N.BootName.table (at_least c.args.batch) c.args.group c.args.need c.args.limit c.args.machine.now c.loop-round.round c.loop-round.freed
    c.loop-round.machine c.loop-round.invariant c.loop-round-test.true c.wanted-want.result c.reclaim_round-pages.result.pages c.reclaim_round-pages.new.machine
    c.reclaim_round-pages.result.tried_all (asks_batch c.args.batch) wants c.if-want-eq0.false e.makes e.tried_all e.missed e.usage e.keeps c.if-pages-eq0.false low

pub returns : goal.returns
returns g c =
    let h = rounds_done g.N.BootName.table (at_least c.args.batch) c.args.group c.args.need c.args.limit c.args.machine.now c.loop-round.round c.loop-round.freed
    c.loop-round.machine c.loop-round.invariant c.loop-round-test.false in
    record { rounds = h.rounds; missed = h.missed; usage = h.usage; keeps = h.keeps }
