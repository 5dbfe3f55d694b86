-- Serves the contract of `tempolemon_replay_as`: each status is one of the six, at its place in the list, and the text is
-- that of the sizes that the host passed.
use Rattle.std.proofs.Common.{◌≡◌, refl, arith, rules, subst}
use Rattle.zone_blocks.specs.declared.config.Config.{Config}
use Rattle.host_memory.specs.{config_of}
use Rattle.tempolemon_c.specs.Replays.{IsReplayAnswer}
use Rattle.tempolemon_c.proofs.tempolemon_replay_as.Goals as goal

pub returns-in-Ok-clause-statuses : goal.returns-in-Ok-clause-statuses
returns-in-Ok-clause-statuses c = (4, omega arith, refl)

pub returns-in-Err-BadLine-clause-statuses : goal.returns-in-Err-BadLine-clause-statuses
returns-in-Err-BadLine-clause-statuses c = (3, omega arith, refl)

pub returns-clause-statuses : goal.returns-clause-statuses
returns-clause-statuses c = (2, omega arith, refl)

pub returns-then-copy_answers-clause-answered : goal.returns-then-copy_answers-clause-answered
returns-then-copy_answers-clause-answered c = λ e. record {
  text = c.in-Ok.text.items;
  is =
      let same : c.in-Some.config ≡ config_of c.args.sizes.now = search rules in
      let answers : IsReplayAnswer c.in-Some.config c.args.is_explained c.args.is_audited c.args.script.now c.in-Ok.text.items = search rules in
      subst (λ (sizes : Config). IsReplayAnswer sizes c.args.is_explained c.args.is_audited c.args.script.now c.in-Ok.text.items) same answers;
  written_is = search rules;
  fits = search rules;
  after_is = search rules;
}

pub returns-in-Ok-clause-too_small : goal.returns-in-Ok-clause-too_small
returns-in-Ok-clause-too_small c = λ e. record {
  text = c.in-Ok.text.items;
  is =
      let same : c.in-Some.config ≡ config_of c.args.sizes.now = search rules in
      let answers : IsReplayAnswer c.in-Some.config c.args.is_explained c.args.is_audited c.args.script.now c.in-Ok.text.items = search rules in
      subst (λ (sizes : Config). IsReplayAnswer sizes c.args.is_explained c.args.is_audited c.args.script.now c.in-Ok.text.items) same answers;
  needed_is = search rules;
  exceeds = search rules;
}
