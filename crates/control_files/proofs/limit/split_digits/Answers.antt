use Rattle.std.proofs.Common.{◌∙◌, not}
use Rattle.std.specs.Char.{is_ascii_digit}
use Rattle.control_files.proofs.Runs.{unwrap_or-position}
use Rattle.control_files.proofs.AmountLemmas.{splits_digits}
use Rattle.control_files.proofs.limit.split_digits.Goals as goal

pub returns : goal.returns
returns c = rw (c.split_at.ensures.front, c.split_at.ensures.back)
    (splits_digits c.args.word.now c.unwrap_or.result
    (c.unwrap_or.ensures ∙ rw c.first_non_digit.ensures (unwrap_or-position (λ byte. not (is_ascii_digit byte)) c.args.word.now)))
