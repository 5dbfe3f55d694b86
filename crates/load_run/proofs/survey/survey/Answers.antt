use Rattle.std.proofs.Common.{◌∙◌}
use Rattle.mem_system.proofs.Closing.{turn_long}
use Rattle.script_replay.specs.Lines.{system_state}
use Rattle.load_run.specs.Survey.{MeetsZone}
use Rattle.load_run.proofs.Surveying.{sees_all}
use Rattle.load_run.proofs.survey.survey.Goals as goal

pub returns : goal.returns
returns g c =
    let t = g.N.BootName.table in
    let one = c.meet_each in
    let two = c.meet_each-2 in
    record {
      sees = sees_all t (system_state c.args.locked.now c.args.cpus.now) (system_state one.new.locked one.new.cpus)
          (system_state two.new.locked two.new.cpus) one.ensures.meets two.ensures.meets one.ensures.sizes two.ensures.sizes
          c.prove_quiet.ensures.quiet.rests.past_is (turn_long (MeetsZone t) _ _ _ _ one.ensures.meets ∙ c.requires.count);
    }
