use Rattle.std.proofs.Common.{refl, sym, ◌∙◌, arith}
use Rattle.log_lines.proofs.Searches.{further, here, nowhere}
use Rattle.log_lines.proofs.name.named.Goals as goal

pub loop-row-init : goal.loop-row-init
loop-row-init g c = refl

pub returns-then-eq : goal.returns-then-eq
returns-then-eq g c =
    sym (here c.args.word.now c.args.names.now c.loop-row.row-index c.row-item.result c.loop-row-test.true c.row-item.is (sym c.eq.ensures ∙ c.if-eq.true))
    ∙ c.loop-row.invariant

pub loop-row-preserved : goal.loop-row-preserved
loop-row-preserved g c =
    sym (further c.args.word.now c.args.names.now c.loop-row.row-index c.row-item.result c.loop-row-test.true c.row-item.is (sym c.eq.ensures ∙ c.if-eq.false))
    ∙ c.loop-row.invariant

pub returns : goal.returns
returns g c = sym (nowhere c.args.word.now c.args.names.now c.loop-row.row-index (omega arith)) ∙ c.loop-row.invariant
