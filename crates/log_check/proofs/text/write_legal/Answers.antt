-- Serves the contract of `write_legal`: one line follows the other.
use Rattle.std.proofs.Common.{◌++◌}
use Rattle.log_check.proofs.Pieces.{behind}
use Rattle.log_check.specs.Texts.{end_text, free_text, legal_text}
use Rattle.log_check.proofs.text.write_legal.Goals as goal

pub returns : goal.returns
returns c =
    let free = free_text c.args.free in
    let end = end_text c.args.end.now in
    behind c.write_end.result c.args.text.now.items _ _ (legal_text c.args.steps) (free ++ end) c.in_ok-write_steps.ensures
    (behind c.write_end.result _ _ _ free end c.in_ok-write_free.ensures c.write_end.ensures)
