-- What the rows show holds of each run that the core shows.
use Rattle.std.proofs.Common.{◌≡◌, length, sym, ◌∙◌, ap}
use Rattle.step_rules.specs.State.{State}
use Rattle.mem_core.specs.Rows as rows
use Rattle.mem_core.specs.Shown.{state_shown}
use Rattle.mem_core.proofs.Linking.{shown_is}
use Rattle.mem_core.proofs.reading_core.Core.list_len.Goals as goal

pub returns-clause-now : goal.returns-clause-now
returns-clause-now c =
    let link : state_shown c.args.self.now ≡ rows.state_in c.self.inside.rows = ap state_shown (sym c.self.view_is) ∙ shown_is c.self.inside in
    c.list_len.ensures ∙ ap (λ (s : State). length (s.parts c.args.cpu).list) (sym link)

pub returns-clause-run : goal.returns-clause-run
returns-clause-run c run shows = returns-clause-now c ∙ ap (λ (s : State). length (s.parts c.args.cpu).list) shows.state
