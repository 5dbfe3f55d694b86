-- Serves the contract of `write_end`: the holder follows what is left.
use Rattle.log_check.proofs.Pieces.{behind}
use Rattle.log_check.specs.Texts.{holder_text, left_text}
use Rattle.log_check.proofs.text.write_end.Goals as goal

pub returns : goal.returns
returns c =
    behind c.write_holder.result c.args.text.now.items _ _ (left_text c.args.end.now) (holder_text c.args.end.now.holder) c.in_ok-write_left.ensures
    c.write_holder.ensures
