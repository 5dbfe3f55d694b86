use Rattle.std.proofs.Common.{rules, ◌≡◌, ◌<◌, arith, get_or, refl}
use Rattle.std.proofs.lemmas.Int.Digits.{digits_more, digits_value_more}
use Rattle.std.specs.Char.{digit_value}
use Rattle.script_lines.proofs.Numerals.{few_digits, no_numeral, none_unless}
use Rattle.script_lines.proofs.number.number.Goals as goal

pub overflow_mul-value : goal.overflow_mul-value
overflow_mul-value c =
    let few = few_digits c.args.word.now c.loop-byte.byte-index c.loop-byte-test.true (omega arith) c.loop-byte.invariant.0 in
    let is = c.loop-byte.invariant.1 in
    record { fits = omega arith }

pub overflow_add-value : goal.overflow_add-value
overflow_add-value c =
    let few = few_digits c.args.word.now c.loop-byte.byte-index c.loop-byte-test.true (omega arith) c.loop-byte.invariant.0 in
    let is = c.loop-byte.invariant.1 in
    let digit : digit_value (get_or c.args.word.now c.loop-byte.byte-index 0) ≡ c.in_ok-value.field-0 = search rules in
    let below : digit_value (get_or c.args.word.now c.loop-byte.byte-index 0) < 10 = search rules in
    record { fits = omega arith }

pub returns-in_err-value : goal.returns-in_err-value
returns-in_err-value c = none_unless _ _ _ c.from_residual.ensures
    (no_numeral c.args.word.now c.loop-byte.byte-index _ c.loop-byte-test.true refl c.in_err-value.ensures)

pub loop-byte-preserved : goal.loop-byte-preserved
loop-byte-preserved c =
    let word = c.args.word.now in
    let digit : digit_value (get_or word c.loop-byte.byte-index 0) ≡ c.in_ok-value.field-0 = search rules in
    let below : digit_value (get_or word c.loop-byte.byte-index 0) < 10 = search rules in
    let more = digits_value_more 10 word c.loop-byte.byte-index c.loop-byte-test.true in
    (digits_more 10 _ _ c.loop-byte-test.true c.loop-byte.invariant.0 below, omega arith)
