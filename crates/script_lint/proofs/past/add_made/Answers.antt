use Rattle.std.proofs.Common.{◌≡◌, codes, rules, true}
use Rattle.std.specs.Str.{bytes_eq}
use Rattle.script_lint.specs.Causes.{word_behind}
use Rattle.script_lint.proofs.Pasts.{put_path}
use Rattle.script_lint.proofs.past.add_made.Goals as goal

pub returns-in_ok-insert : goal.returns-in_ok-insert
returns-in_ok-insert c path =
    let is : bytes_eq (word_behind 1 c.args.text.now) (codes "mkdir") ≡ true = search rules in
    put_path _ _ c.args.text.now path c.word_behind-then-eq.result.now (c.in_ok-insert.ensures.updates.0 (record { ref_ptr = (0, 0); now = path }))
    c.word_behind-then-eq.ensures is
