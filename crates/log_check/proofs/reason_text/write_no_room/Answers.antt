-- The group, and then the sum.
use Rattle.log_check.specs.ReasonTexts.{full_limit_text, sum_text}
use Rattle.log_check.proofs.Pieces.{behind}
use Rattle.log_check.proofs.reason_text.write_no_room.Goals as goal

pub returns : goal.returns
returns c =
    behind c.write_sum.result c.args.text.now.items _ _ (full_limit_text c.args.path.now) (sum_text c.args.usage c.args.pages c.args.limit)
    c.in_ok-write_limit.ensures c.write_sum.ensures
