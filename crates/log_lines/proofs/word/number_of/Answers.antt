use Rattle.std.proofs.Common.{◌≡◌, Some, None, decimal, arith, sym, ◌∙◌, rules}
use Rattle.log_lines.proofs.Numbers.{no_number, number_again}
use Rattle.log_lines.proofs.word.number_of.Goals as goal

pub returns-in_err-number : goal.returns-in_err-number
returns-in_err-number c = c.from_residual.ensures ∙ sym (no_number c.args.word.now (λ n lt is. let bad : None ≡ Some n = c.in_err-number.ensures n lt is in cc))

pub returns-then-eq : goal.returns-then-eq
returns-then-eq c =
    let text : decimal c.in_ok-number.number ≡ c.args.word.now = search rules in
    rw (← text) (sym (number_again c.in_ok-number.number (omega arith)))

pub returns-else-eq : goal.returns-else-eq
returns-else-eq c = sym (no_number c.args.word.now (λ n lt is.
    let read = c.value_of.ensures n lt is in
    let same : n ≡ c.in_ok-number.number = search (rules, read) in
    let text : decimal c.in_ok-number.number ≡ c.args.word.now = rw (← same) (sym is) in
    search (rules, text)))
