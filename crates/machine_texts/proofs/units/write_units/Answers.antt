use Rattle.std.specs.String.{string_bytes}
use Rattle.machine_texts.proofs.UnitLines.{both_added, both_lists}
use Rattle.machine_texts.proofs.units.write_units.Goals as goal

pub returns : goal.returns
returns g c = record {
  units = both_lists g.N.BootName.table c.args.group c.args.machine.now c.write_list-inactive.new.machine c.write_list-active.new.machine _ _ _
      (c.keeps_none.ensures.some c.if-keeps_none.false) c.write_list-inactive.ensures.lines c.write_list-active.ensures.lines
      (λ text line told added. both_added c.first_error.result c.write_list-inactive.result c.write_list-active.result (string_bytes c.args.text.now)
      (string_bytes c.write_list-inactive.new.text) (string_bytes c.write_list-active.new.text) c.first_error.ensures.first c.first_error.ensures.second text
      line told added);
}
