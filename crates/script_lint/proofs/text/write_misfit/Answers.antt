use Rattle.script_lint.proofs.Pieces.{behind}
use Rattle.script_lint.proofs.text.write_misfit.Goals as goal

pub returns : goal.returns
returns c = behind c.write_form.result _ c.args.why.now _ _ _ c.in_ok-push_str.ensures.bytes c.write_form.ensures
