use Rattle.std.proofs.Common.{◌∙◌, rules}
use Rattle.std.proofs.lemmas.Fmt.{parse-decimal}
use Rattle.log_lines.proofs.Numbers.{utf8_decimal}
use Rattle.log_lines.proofs.word.value_of.Goals as goal

pub returns-in-Err : goal.returns-in-Err
returns-in-Err c n lt is = absurd (c.in-Err.ensures.cases.0 (rw is (utf8_decimal n lt)))

pub returns-in-Ok : goal.returns-in-Ok
returns-in-Ok c n lt is =
    let read = parse-decimal 64 n _ c.parse.result lt lt (c.in-Ok.ensures.cases.0 ∙ is) c.parse.ensures.value.0 in
    search (rules, read)
