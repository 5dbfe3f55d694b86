-- The goals of `fill`.
use Rattle.std.proofs.Common.{◌≡◌, ◌-◌, ◌^◌, ◌<◌, sym, ◌∙◌, ap, subst}
use Rattle.step_rules.specs.State.{State}
use Rattle.step_rules.specs.{with_part, with_pending, filled}
use Rattle.mem_core.specs.Rows.{state_in}
use Rattle.mem_core.proofs.Serving.{book_few}
use Rattle.mem_core.proofs.stocks.fill.Goals as goal

pub fill_stock-requires-clause-few : goal.fill_stock-requires-clause-few
fill_stock-requires-clause-few c =
    subst (λ (t : State). (t.parts c.args.cpu).book < 2 ^ 100) (sym c.set_pending.ensures.state) (book_few (state_in c.args.rows.now) c.args.cpu c.requires.bounded)

pub returns : goal.returns
returns c =
    let s = state_in c.args.rows.now in
    let left : c.pending.result - c.from.result ≡ s.pending c.args.group - c.args.pages = (λ i. c.pending.ensures i - c.from.ensures i) in
    record {
      made = record {
        answered = tt;
        counted = tt;
        state = c.fill_stock.ensures.state ∙ ap (λ (t : State). with_part t c.args.cpu
            (filled (t.parts c.args.cpu) c.args.group c.args.pages)) (c.set_pending.ensures.state ∙ ap (with_pending s c.args.group) left);
        fits = c.fill_stock.ensures.fits;
      };
    }
