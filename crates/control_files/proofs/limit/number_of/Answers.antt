use Rattle.std.proofs.Common.{◌≡◌, length, refl, ◌∙◌, arith}
use Rattle.std.proofs.Math.Seq.{take-length}
use Rattle.std.specs.Str.Parse.{digits_value}
use Rattle.control_files.proofs.NumberLemmas.{digit_low, next_number, next_number-le}
use Rattle.control_files.proofs.limit.number_of.Goals as goal

pub overflow_sub-digit : goal.overflow_sub-digit
overflow_sub-digit c = digit_low _ _ c.requires (omega arith)

pub returns-in_err-checked_mul : goal.returns-in_err-checked_mul
returns-in_err-checked_mul c = rw c.from_residual.ensures
    (λ small. c.in_err-checked_mul.ensures (omega (arith, next_number-le c.args.digits.now c.loop-digit.digit-index c.requires (omega arith))))

pub returns-in_err-number : goal.returns-in_err-number
returns-in_err-number c = rw c.from_residual-in_err-number.ensures
    (λ small. c.in_err-number.ensures (omega
    (arith, c.in_ok-checked_mul.ensures, c.from.ensures, next_number-le c.args.digits.now c.loop-digit.digit-index c.requires (omega arith))))

pub loop-digit-preserved : goal.loop-digit-preserved
loop-digit-preserved c = (
  omega (arith, c.in_ok-number.ensures),
  omega (
    arith,
    c.in_ok-checked_mul.ensures,
    c.in_ok-number.ensures,
    c.from.ensures,
    next_number c.args.digits.now c.loop-digit.digit-index c.requires
        (omega arith),
  ),
)

pub returns : goal.returns
returns c =
    let end : c.loop-digit.digit-index ≡ length c.args.digits.now = omega arith in
    let whole : c.loop-digit.number ≡ digits_value 10 c.args.digits.now = c.loop-digit.invariant.1 ∙ rw (end, take-length c.args.digits.now) refl in
    (omega arith, whole)
