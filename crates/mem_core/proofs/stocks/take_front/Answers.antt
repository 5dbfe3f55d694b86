-- The goals of `take_front`.
use Rattle.std.proofs.Common.{◌≡◌, ◌<◌, ◌≤◌, length, sym, ◌∙◌, ap, subst}
use Rattle.step_rules.specs.State.{State}
use Rattle.step_rules.specs.{with_part, with_phase, front_of, paid, consumed}
use Rattle.mem_core.specs.Rows.{state_in}
use Rattle.step_rules.specs.declared.phase.Phase.TheVariants.{Head}
use Rattle.step_rules.specs.declared.phase.Stage.TheVariants.{FreshAt}
use Rattle.mem_core.proofs.Serving.{consume_room, consume_some}
use Rattle.mem_core.proofs.stocks.take_front.Goals as goal

pub pay-requires-clause-some : goal.pay-requires-clause-some
pay-requires-clause-some c =
    let s = state_in c.args.rows.now in
    subst (λ (t : State). 1 ≤ length (t.parts c.args.seat).list) (sym c.set_phase.ensures.state) (consume_some s c.args.seat c.args.group c.requires.legal)

pub pay-requires-clause-page : goal.pay-requires-clause-page
pay-requires-clause-page c = subst (λ (t : State). 1 ≤ (t.parts c.args.seat).stock.pages) (sym c.set_phase.ensures.state) c.requires.page

pub pay-requires-clause-room : goal.pay-requires-clause-room
pay-requires-clause-room c =
    let s = state_in c.args.rows.now in
    subst (λ (t : State). length (t.parts c.args.seat).fresh < 32) (sym c.set_phase.ensures.state)
    (consume_room s c.args.seat c.args.group c.requires.legal)

pub returns : goal.returns
returns c =
    let s = state_in c.args.rows.now in
    let p = c.args.seat in
    let g = c.args.group in
    let front : c.front-front.result ≡ front_of (s.parts p).list = c.front-front.ensures in
    let order : c.least_order.result ≡ 0 = c.least_order.ensures in
    let mid : state_in c.set_phase.new.self ≡ with_phase s (front_of (s.parts p).list) (consumed p g) =
    c.set_phase.ensures.state ∙ (λ i. with_phase s (front i) (Head (record { group = g; order = order i }) (FreshAt p))) in
    record {
      made = record {
        answered = (c.requires.of, c.requires.undrained, c.requires.page);
        counted = tt;
        state = c.pay.ensures.state ∙ ap (λ (t : State). with_part t p (paid (t.parts p))) mid;
        fits = c.pay.ensures.fits;
      };
    }
