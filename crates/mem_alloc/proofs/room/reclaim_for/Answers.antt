use Rattle.std.proofs.Common.{None, Some, sym, ap, ◌∙◌, ◌≡◌}
use Rattle.boot_words.specs.Tables.{KnownTable}
use Rattle.zone_blocks.specs.declared.choices.Choices.{Choices}
use Rattle.group_tree.specs.Groups.{limit_of}
use Rattle.group_charge.specs.Charges.{Ledger}
use Rattle.mem_alloc.proofs.Making.{no_rounds, rounds_for}
use Rattle.mem_alloc.proofs.room.reclaim_for.Goals as goal

pub returns-in_default : goal.returns-in_default
returns-in_default g c =
    let none : limit_of c.args.machine.now.ledger.groups c.args.limited ≡ None =
    ap (λ (l : Ledger). limit_of l.groups c.args.limited) (sym c.charges.ensures) ∙ sym c.max.ensures ∙ c.in_default.is in
    record { reclaims = no_rounds g.N.BootName.table c.args.limited c.args.pages c.args.machine.now none; visit = λ p v. v }

pub returns-in-Some-clause-reclaims : goal.returns-in-Some-clause-reclaims
returns-in-Some-clause-reclaims g c =
    let t = g.N.BootName.table in
    let is : limit_of c.args.machine.now.ledger.groups c.args.limited ≡ Some c.in-Some.limit =
    ap (λ (l : Ledger). limit_of l.groups c.args.limited) (sym c.charges.ensures) ∙ sym c.max.ensures ∙ c.in-Some.is in
    let chosen : c.choices-batch.result.reclaim_batch ≡ t.choices.reclaim_batch =
    ap (λ (k : Choices). k.reclaim_batch) c.choices-batch.ensures ∙ ap (λ (w : KnownTable). w.choices.reclaim_batch) c.args.tables.now.words_are in
    let e = c.reclaim_in_batches.ensures in
    rounds_for t c.args.limited c.args.pages c.in-Some.limit c.choices-batch.result.reclaim_batch c.reclaim_in_batches.result c.args.machine.now
    c.reclaim_in_batches.new.machine is chosen e.rounds e.missed e.keeps
