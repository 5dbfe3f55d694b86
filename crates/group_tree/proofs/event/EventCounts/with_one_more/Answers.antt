use Rattle.std.proofs.Common.{ap, ◌∙◌}
use Rattle.group_tree.specs.Events.{with_one_more}
use Rattle.group_tree.proofs.EventLemmas.{set_count}
use Rattle.group_tree.proofs.event.EventCounts.with_one_more.Goals as goal

pub returns : goal.returns
returns c =
    set_count c.args.key c.self.inside.counts c.index-index.result _ c.saturating_add.result c.self.invariant c.index-index.ensures.value
    c.saturating_add.ensures
    ∙ ap (with_one_more c.args.key) c.self.view_is
