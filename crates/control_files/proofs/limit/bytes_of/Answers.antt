use Rattle.std.proofs.Common.{◌<◌, length, arith}
use Rattle.std.proofs.lemmas.Bool.Decides.{nat_tests}
use Rattle.std.proofs.lemmas.Result.{err_from_is_err_and}
use Rattle.control_files.specs.Limit.{IsSuffix}
use Rattle.control_files.proofs.AmountLemmas.{suffix_refused, number_refused, amount_answer}
use Rattle.control_files.proofs.limit.bytes_of.Goals as goal

pub returns-in_err-factor : goal.returns-in_err-factor
returns-in_err-factor c = let p = err_from_is_err_and c.from_residual.result c.from_residual.ensures.1 in rw (p.1, p.2)
    (suffix_refused c.args.word.now c.split_digits.result.0.now c.split_digits.result.1.now c.read_suffix.result _ c.split_digits.ensures
    c.read_suffix.ensures.none c.in_err-factor.ensures.value)

pub returns-in_err-number : goal.returns-in_err-number
returns-in_err-number c =
    let some : 0 < length c.split_digits.result.0.now = grind (arith, nat_tests) in
    let suffix_is : IsSuffix c.split_digits.result.1.now c.in_ok-factor.factor = rw c.in_ok-factor.ensures.ok_part at c.read_suffix.ensures.some in
    let p = err_from_is_err_and c.from_residual-in_err-number.result c.from_residual-in_err-number.ensures.1 in rw (p.1, p.2)
    (number_refused c.args.word.now c.split_digits.result.0.now c.split_digits.result.1.now c.in_ok-factor.factor c.number_of.result _
    c.split_digits.ensures some suffix_is c.number_of.ensures c.in_err-number.ensures.value)

pub returns : goal.returns
returns c =
    let some : 0 < length c.split_digits.result.0.now = grind (arith, nat_tests) in
    let suffix_is : IsSuffix c.split_digits.result.1.now c.in_ok-factor.factor = rw c.in_ok-factor.ensures.ok_part at c.read_suffix.ensures.some in
    let number_is = rw c.in_ok-number.ensures.ok_part at c.number_of.ensures in
    rw c.ok_or-3.ensures.value
    (amount_answer c.args.word.now c.split_digits.result.0.now c.split_digits.result.1.now c.in_ok-factor.factor c.in_ok-number.number
    c.checked_mul.result c.split_digits.ensures some suffix_is number_is.1 c.checked_mul.ensures)
