-- The flag is the one that the run gave last.
use Rattle.std.proofs.Common.{◌≡◌, true, ◌∙◌, ap, subst}
use Rattle.step_rules.specs.State.{State}
use Rattle.group_tree.specs.Groups.{has_group, is_oom_group}
use Rattle.step_rules.proofs.Telling.{groups_follow_the_run}
use Rattle.mem_core.specs.Shown.{CoreState}
use Rattle.mem_core.proofs.reading_core.Core.is_oom_group.Goals as goal

pub returns-clause-run : goal.returns-clause-run
returns-clause-run c run shows =
    let g = c.args.group in
    let told = groups_follow_the_run c.args.self.now.zone run shows.legal g in
    let there = subst (λ (s : State). has_group s.groups g ≡ true) shows.state c.requires in
    let now : c.is_oom_group.result ≡ is_oom_group c.args.self.now.groups g = c.is_oom_group.ensures
    ∙ ap (λ (s : CoreState). is_oom_group s.groups g) c.self.view_is in
    now ∙ ap (λ (s : State). is_oom_group s.groups g) shows.state ∙ told.flag there
