use Rattle.std.proofs.Common.{true, false, rules}
use Rattle.script_replay.specs.Lines.{system_state}
use Rattle.script_replay.proofs.Going.{formed}
use Rattle.script_replay.proofs.replays.serve_in_form.Goals as goal

pub returns-then-form : goal.returns-then-form
returns-then-form g c = record {
  served = formed g.N.BootName.table c.args.form c.args.line.now (system_state c.args.locked.now c.args.cpus.now)
      (system_state c.serve_numbered.new.locked c.serve_numbered.new.cpus) c.serve_numbered.result c.args.answers.now
      c.serve_numbered.new.answers true (search rules) c.serve_numbered.ensures.served;
}

pub returns-else-form : goal.returns-else-form
returns-else-form g c = record {
  served = formed g.N.BootName.table c.args.form c.args.line.now (system_state c.args.locked.now c.args.cpus.now)
      (system_state c.serve_line.new.locked c.serve_line.new.cpus) c.serve_line.result c.args.answers.now
      c.serve_line.new.answers false (search rules) c.serve_line.ensures.served;
}
