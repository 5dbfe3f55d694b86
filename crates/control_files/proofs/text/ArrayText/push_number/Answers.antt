use Rattle.std.proofs.Common.{ℕ, List, ◌++◌, rules, arith, sym, ap, ◌∙◌}
use Rattle.std.proofs.lemmas.Fmt.{decimal_digit}
use Rattle.control_files.proofs.text.ArrayText.push_number.Goals as goal

pub returns-then-number-lt10-clause-text : goal.returns-then-number-lt10-clause-text
returns-then-number-lt10-clause-text c =
    c.push.ensures ∙ ap (λ (digit : List ℕ). c.args.self.now ++ digit) (sym (decimal_digit c.args.number (omega (arith, c.if-number-lt10.true))))

pub returns-clause-text : goal.returns-clause-text
returns-clause-text c = search rules
