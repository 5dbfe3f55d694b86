-- Serves the contract of `write_illegal`: one text follows the other.
use Rattle.std.proofs.Common.{◌++◌, codes}
use Rattle.log_check.specs.{reason_text, due_text, step_place_text}
use Rattle.log_check.proofs.Pieces.{behind}
use Rattle.log_check.proofs.text.write_illegal.Goals as goal

pub returns : goal.returns
returns c =
    let illegal = c.args.illegal.now in
    let place = step_place_text illegal.line illegal.step in
    let due = due_text illegal.expected in
    let why = reason_text illegal.reason ++ codes "\n" in
    behind c.write_why.result c.args.text.now.items _ _ place (due ++ why) c.in_ok-write_place.ensures
    (behind c.write_why.result _ _ _ due why c.in_ok-write_due.ensures c.write_why.ensures)
