-- Serves the contract of `take_zone`: the sizes come once, before the first step.
use Rattle.std.proofs.Common.{◌∙◌, sym}
use Rattle.step_rules.specs.State.{Zone}
use Rattle.log_check.proofs.Steps.{no_sizes, second_sizes, takes_zone}
use Rattle.log_check.proofs.progress.Progress.take_zone.Goals as goal

pub returns-then-is_some-clause-taken : goal.returns-then-is_some-clause-taken
returns-then-is_some-clause-taken c = λ count lines left checked.
    let old = c.args.self.now in
    let zone : Zone = record { frames = c.args.frames; cpus = c.args.cpus; groups = c.args.groups } in
    second_sizes old.checker count lines zone old.steps old.free left (sym c.is_some.ensures ∙ c.if-is_some.true) checked

pub returns-in-Ok-clause-taken : goal.returns-in-Ok-clause-taken
returns-in-Ok-clause-taken c = λ count lines left checked.
    let old = c.args.self.now in
    let zone : Zone = record { frames = c.args.frames; cpus = c.args.cpus; groups = c.args.groups } in
    takes_zone count lines zone old.steps old.free left c.in-Ok.checker
    (no_sizes old.checker count lines old.steps old.free left (sym c.is_some.ensures ∙ c.if-is_some.false) checked) c.in-Ok.ensures.state
