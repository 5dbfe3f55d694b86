-- The goals of `credit`.
use Rattle.std.proofs.Common.{◌^◌, ◌<◌, length, sym, ◌∙◌, ap, subst}
use Rattle.step_rules.specs.State.{State}
use Rattle.step_rules.specs.{with_part, credited}
use Rattle.mem_core.specs.Rows.{state_in}
use Rattle.mem_core.proofs.Serving.{credit_room, pages_few}
use Rattle.mem_core.proofs.stocks.credit.Goals as goal

pub credit-requires-clause-room : goal.credit-requires-clause-room
credit-requires-clause-room c =
    subst (λ (t : State). length (t.parts c.args.seat).list < t.zone.frames) (sym c.set_phase.ensures.state)
    (credit_room (state_in c.args.rows.now) c.args.seat c.args.frame c.requires.bounded c.requires.legal)

pub credit-requires-clause-few : goal.credit-requires-clause-few
credit-requires-clause-few c =
    subst (λ (t : State). (t.parts c.args.seat).stock.pages < 2 ^ 100) (sym c.set_phase.ensures.state)
    (pages_few (state_in c.args.rows.now) c.args.seat c.requires.bounded)

pub returns : goal.returns
returns c = record {
  made = record {
    answered = sym c.is_drained.ensures ∙ c.if-is_drained.false;
    counted = tt;
    state = c.credit.ensures.state ∙ ap (λ (t : State). with_part t c.args.seat (credited (t.parts c.args.seat) c.args.frame)) c.set_phase.ensures.state;
    fits = c.credit.ensures.fits;
  };
}
