use Rattle.std.proofs.Common.{rules, ◌≡◌, ◌<◌, ◌+◌, ◌*◌, arith, get_or, length, take}
use Rattle.std.proofs.lemmas.Int.Digits.{digits_more, digits_value_more}
use Rattle.std.proofs.lemmas.List.{length-take-le}
use Rattle.std.specs.Char.{digit_value}
use Rattle.std.specs.Str.Parse.{AllDigits, digits_value}
use Rattle.script_lines.proofs.Cuts.{cut_once, digits_no_space, is_cut, no_cut}
use Rattle.script_lines.proofs.Readings.{on_none}
use Rattle.script_lines.proofs.number.first_number.Goals as goal

pub returns-then-text-eq32-2 : goal.returns-then-text-eq32-2
returns-then-text-eq32-2 c =
    let text = c.args.text.now in
    let long : 2 < length text = omega arith in
    let first : c.from.result ≡ get_or text 0 0 = search rules in
    let second : c.from-in-Some.result ≡ get_or text 1 0 = search rules in
    let tens : digit_value (get_or text 0 0) ≡ c.in-Some.tens = rw (← first) (search rules) in
    let ones : digit_value (get_or text 1 0) ≡ c.in-Some-to_digit.ones = rw (← second) (search rules) in
    let tens_low : digit_value (get_or text 0 0) < 10 = rw (← first) (search rules) in
    let ones_low : digit_value (get_or text 1 0) < 10 = rw (← second) (search rules) in
    let stop : get_or text 2 0 ≡ 32 = c.if-text-eq32-2.true in
    let one : AllDigits 10 (take 1 text) = digits_more 10 text 0 (omega arith) tt tens_low in
    let both : AllDigits 10 (take 2 text) = digits_more 10 text 1 (omega arith) one ones_low in
    let value_one : digits_value 10 (take 1 text) ≡ 0 * 10 + digit_value (get_or text 0 0) = digits_value_more 10 text 0 (omega arith) in
    let value : digits_value 10 (take 2 text) ≡ digits_value 10 (take 1 text) * 10 + digit_value (get_or text 1 0) = digits_value_more 10 text 1 (omega arith) in
    let taken = length-take-le 2 text (omega arith) in (
      is_cut text 2 long (digits_no_space (take 2 text) both) stop,
      record { digits = (omega arith, both); value = omega arith; fits = omega arith },
    )

pub returns-in_err-end : goal.returns-in_err-end
returns-in_err-end c = on_none _ _ _ c.from_residual.ensures (λ word rest n cut writes.
    no_cut c.args.text.now word rest c.in_err-end.ensures cut.parts)

pub returns-in_err-number : goal.returns-in_err-number
returns-in_err-number c = on_none _ _ _ c.from_residual-in_err-number.ensures (λ word rest n cut writes.
    let text = c.args.text.now in
    let found = c.in_ok-end.ensures in
    let here = is_cut text c.in_ok-end.end found.inside found.before found.here in
    let same = (cut_once text word rest _ _ cut found.before here.1.parts).0 in
    c.in_err-number.ensures (rw same at writes.digits, rw (← same) (rw writes.value writes.fits)))
