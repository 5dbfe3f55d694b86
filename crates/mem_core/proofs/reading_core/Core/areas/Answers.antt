-- The free areas are those of the state that the run defines (for `Core::areas`).
use Rattle.std.proofs.Common.{◌≡◌, sym, ◌∙◌, ap, subst}
use Rattle.zone_blocks.specs.Areas.{AreMaximalBlocks}
use Rattle.step_rules.specs.State.{State, free_in}
use Rattle.mem_core.specs.Rows as rows
use Rattle.mem_core.specs.Shown.{state_shown}
use Rattle.mem_core.proofs.Linking.{shown_is}
use Rattle.mem_core.proofs.reading_core.Core.areas.Goals as goal

pub returns-clause-run : goal.returns-clause-run
returns-clause-run c run shows =
    let shown : rows.state_in c.self.inside.rows ≡ state_shown c.args.self.now = sym (shown_is c.self.inside) ∙ ap state_shown c.self.view_is in
    let s = rows.state_in c.self.inside.rows in
    let t = state_shown c.args.self.now in
    let own : AreMaximalBlocks (free_in t.zone t.phases) c.self.inside.areas.blocks =
    subst (λ (x : State). AreMaximalBlocks (free_in x.zone x.phases) c.self.inside.areas.blocks) shown c.self.invariant.areas in
    subst (λ (x : State). AreMaximalBlocks (free_in c.args.self.now.zone x.phases) c.self.inside.areas.blocks) shows.state own
