use Rattle.std.proofs.Common.{rules, ◌≡◌, ◌<◌, arith, get_or, length}
use Rattle.std.proofs.lemmas.Grind.{common_steps}
use Rattle.std.proofs.lemmas.Int.Digits.{digits_more, digits_value_more}
use Rattle.std.specs.Char.{digit_value}
use Rattle.script_lines.proofs.Numerals.{no_numeral, none_unless, too_great}
use Rattle.script_lines.proofs.number.long_number.Goals as goal

pub returns-in_err-digit : goal.returns-in_err-digit
returns-in_err-digit c = none_unless _ _ _ c.from_residual.ensures
    (no_numeral _ c.loop-byte.byte-index c.from.result c.loop-byte-test.true (search rules) c.in_err-digit.ensures.value)

pub returns-then-value-gt-MOST : goal.returns-then-value-gt-MOST
returns-then-value-gt-MOST c =
    let byte : c.from.result ≡ get_or c.args.word.now c.loop-byte.byte-index 0 = search rules in
    let digit : digit_value (get_or c.args.word.now c.loop-byte.byte-index 0) ≡ c.in_ok-digit.digit = rw (← byte) (search rules) in
    let great = c.if-value-gt-MOST.true in
    too_great _ c.loop-byte.byte-index c.loop-byte.value c.in_ok-digit.digit c.loop-byte-test.true c.loop-byte.invariant.1 (omega arith)
    (λ h. omega arith)

pub loop-byte-preserved : goal.loop-byte-preserved
loop-byte-preserved c =
    let byte : c.from.result ≡ get_or c.args.word.now c.loop-byte.byte-index 0 = search rules in
    let digit : digit_value (get_or c.args.word.now c.loop-byte.byte-index 0) ≡ c.in_ok-digit.digit = rw (← byte) (search rules) in
    let below : digit_value (get_or c.args.word.now c.loop-byte.byte-index 0) < 10 = rw (← byte) (search rules) in
    let more = digits_value_more 10 c.args.word.now c.loop-byte.byte-index c.loop-byte-test.true in
    let small = c.if-value-gt-MOST.false in
    (digits_more 10 _ _ c.loop-byte-test.true c.loop-byte.invariant.0 below, omega arith, omega arith)

pub returns : goal.returns
returns c =
    let whole : c.loop-byte.byte-index ≡ length c.args.word.now = omega arith in
    grind (arith, common_steps)
