use Rattle.std.proofs.Common.{codes}
use Rattle.script_lint.specs.Texts.{cpus_text, shown_word_text}
use Rattle.script_lint.proofs.Pieces.{follow}
use Rattle.script_lint.proofs.text.write_cpu.Goals as goal

pub returns : goal.returns
returns c =
    follow c.write_cpus.result _ (codes "CPU ") (shown_word_text c.args.finding.now) (cpus_text c.args.sizes.now.cpus) _ _ _
    c.in_ok-push_str.ensures.bytes c.in_ok-push_word.ensures c.write_cpus.ensures
