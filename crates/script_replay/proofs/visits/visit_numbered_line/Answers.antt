use Rattle.std.proofs.Common.{◌≡◌, refl, rules}
use Rattle.script_replay.specs.{numbered_text, known_system, ServesByVisits}
use Rattle.script_replay.proofs.Telling.{with_number}
use Rattle.script_replay.proofs.visits.visit_numbered_line.Goals as goal

pub returns-in_err-visit_line : goal.returns-in_err-visit_line
returns-in_err-visit_line g c = let said = c.visit_line.ensures.answered in record {
  answered = record {
    text = numbered_text c.args.line said.text;
    so = record { plain = said.text; so = said.so; text_is = refl };
    added = search rules;
  };
}

pub returns : goal.returns
returns g c =
    let said = c.in_ok-visit_line.ensures.answered in
    let is : c.as_str.result.now ≡ said.text = search rules in
    record {
      answered = with_number (ServesByVisits (known_system g.N.BootName.table c.args.visitor.now.system.now.sizes) c.args.command.now c.args.cpu.now c.visit_line.new.cpu)
          c.args.line said.text c.as_str.result.now c.args.text.now c.write_numbered.new.text c.write_numbered.result said.so is
          c.write_numbered.ensures;
    }
