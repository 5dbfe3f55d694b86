-- What the rows show holds of each run that the core shows.
use Rattle.std.proofs.Common.{◌≡◌, ◌*◌, ◌^◌, sym, ◌∙◌, ap, arith}
use Rattle.step_rules.specs.State.{State, pins_of}
use Rattle.mem_core.specs.Rows as rows
use Rattle.mem_core.specs.Shown.{state_shown}
use Rattle.mem_core.proofs.Linking.{shown_is, ready}
use Rattle.mem_core.proofs.reading_core.Core.pin_count.Goals as goal

pub pin_count-requires-clause-bounded : goal.pin_count-requires-clause-bounded
pin_count-requires-clause-bounded c =
    let few = c.self.invariant.few in
    ready c.self.inside.rows (c.self.inside.steps * 2 ^ 32) (omega arith) c.self.invariant.fits c.self.invariant.sound c.self.invariant.bounded

pub returns-clause-now : goal.returns-clause-now
returns-clause-now c =
    let link : state_shown c.args.self.now ≡ rows.state_in c.self.inside.rows = ap state_shown (sym c.self.view_is) ∙ shown_is c.self.inside in
    c.pin_count.ensures.pins ∙ ap (λ (s : State). pins_of s c.args.seat) (sym link)

pub returns-clause-run : goal.returns-clause-run
returns-clause-run c run shows = returns-clause-now c ∙ ap (λ (s : State). pins_of s c.args.seat) shows.state
