use Rattle.std.proofs.Common.{refl, sym}
use Rattle.control_files.proofs.WordLemmas.{no_word, word_answer}
use Rattle.control_files.proofs.word.only_word.Goals as goal

pub returns-in_err-start : goal.returns-in_err-start
returns-in_err-start c = rw c.from_residual.ensures (no_word c.args.text.now (sym (c.in_err-start.ensures)))

pub returns : goal.returns
returns c = rw c.then_some.ensures
    (word_answer c.args.text.now _ c.split_at.result.1.now c.in_ok-start.start c.unwrap_or.result c.split_at.result.0 c.are_spaces.result
    (sym c.in_ok-start.ensures) refl (rw c.first_space.ensures at c.unwrap_or.ensures) c.split_at.ensures.front c.split_at.ensures.back c.are_spaces.ensures)
