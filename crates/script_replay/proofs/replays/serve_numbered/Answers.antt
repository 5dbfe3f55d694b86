use Rattle.std.proofs.Common.{◌≡◌, rules}
use Rattle.script_replay.specs.{number_in_script, system_state, numbered_text}
use Rattle.script_replay.proofs.Going.{number_added, numbered_keeps}
use Rattle.script_replay.proofs.replays.serve_numbered.Goals as goal

pub returns-in_err-serve_line : goal.returns-in_err-serve_line
returns-in_err-serve_line g c = let said = c.serve_line.ensures.served in record {
  served = record {
    text = numbered_text (number_in_script c.args.line.now) said.text;
    so = numbered_keeps g.N.BootName.table c.args.is_explained c.args.line.now
        (system_state c.args.locked.now c.args.cpus.now) (system_state c.serve_line.new.locked c.serve_line.new.cpus) said.text said.so;
    added = search rules;
  };
}

pub returns : goal.returns
returns g c =
    let said = c.in_ok-serve_line.ensures.served in
    let is : c.as_str.result.now ≡ said.text = search rules in
    record {
      served = number_added g.N.BootName.table c.args.is_explained c.args.line.now
          (system_state c.args.locked.now c.args.cpus.now) (system_state c.serve_line.new.locked c.serve_line.new.cpus)
          c.write_numbered.result c.args.answers.now c.write_numbered.new.text c.number_of.result said.text c.as_str.result.now said.so is
          c.number_of.ensures c.write_numbered.ensures;
    }
