use Rattle.std.proofs.Common.{sym, rules}
use Rattle.log_lines.proofs.Texts.{first_word, one_word}
use Rattle.log_lines.proofs.word.Words.word.Goals as goal

pub returns-in-None : goal.returns-in-None
returns-in-None c =
    let one = one_word c.in_ok-text.text.now (sym c.in-None.ensures) in
    search (rules, one)

pub returns-in-Some : goal.returns-in-Some
returns-in-Some c =
    let first = first_word c.in_ok-text.text.now c.in-Some.end (sym c.in-Some.ensures) in
    search (rules, first)
