-- Serves the contract of `write_left_out`: the number of steps follows their lines.
use Rattle.std.specs.List.{flat_map}
use Rattle.log_check.proofs.Pieces.{behind}
use Rattle.log_check.specs.Texts.{count_text, illegal_text}
use Rattle.log_check.proofs.text.write_left_out.Goals as goal

pub returns : goal.returns
returns c =
    behind c.write_count.result c.args.text.now.items _ _ (flat_map illegal_text c.args.first.now) (count_text c.args.count c.args.steps)
    c.in_ok-write_each.ensures c.write_count.ensures
