-- The goals of `drain_stock`.
use Rattle.std.proofs.Common.{◌≡◌, ℕ, ◌^◌, ◌≤◌, sym, ◌∙◌, ap, subst}
use Rattle.step_rules.specs.State.{State}
use Rattle.step_rules.specs.{with_part, drained, with_more}
use Rattle.mem_core.specs.Rows.{state_in}
use Rattle.mem_core.proofs.stocks.drain_stock.Goals as goal

pub add_pending-requires-clause-few : goal.add_pending-requires-clause-few
add_pending-requires-clause-few c = subst (λ (t : State). (g : ℕ) → t.pending g ≤ 2 ^ 96) (sym c.drain_stock-pages.ensures.state) c.requires.bounded.pending

pub returns : goal.returns
returns c =
    let s = state_in c.args.rows.now in
    let p = c.args.cpu in
    let n = c.drain_stock-pages.result in
    let pages : n ≡ (s.parts p).stock.pages = c.drain_stock-pages.ensures.pages in
    let mid : state_in c.drain_stock-pages.new.self ≡ with_part s p (drained (s.parts p) n) = c.drain_stock-pages.ensures.state
    ∙ ap (λ k. with_part s p (drained (s.parts p) k)) (sym pages) in
    let of : c.stock_group-of.result ≡ (s.parts p).stock.group = c.stock_group-of.ensures in
    record {
      made = record {
        answered = tt;
        counted = pages;
        state = c.add_pending.ensures.state ∙ (λ i. record (mid i) { pending = with_more (mid i).pending (of i) n });
        fits = c.add_pending.ensures.fits;
      };
    }
