use Rattle.std.proofs.lemmas.Result.{err_from_is_err_and}
use Rattle.control_files.specs.{IsFlagReading, HasOnlyWord}
use Rattle.control_files.proofs.FlagLemmas.{exactly_flag, exactly_no_flag, flag_read, no_flag_read, only_bad_limit}
use Rattle.control_files.proofs.flag.read_flag.Goals as goal

pub returns-in_err-word : goal.returns-in_err-word
returns-in_err-word c =
    let reading : IsFlagReading c.args.text.now c.from_residual.result = let p = err_from_is_err_and c.from_residual.result c.from_residual.ensures.1 in
    rw (p.1, p.2) (no_flag_read c.args.text.now c.only_word.result _ c.only_word.ensures c.in_err-word.ensures.value) in
    record {
      ok = exactly_flag c.args.text.now c.from_residual.result reading;
      bad_limit = exactly_no_flag c.args.text.now c.from_residual.result reading;
      err = only_bad_limit c.args.text.now c.from_residual.result reading;
    }

pub returns : goal.returns
returns c =
    let word : HasOnlyWord c.args.text.now c.in_ok-word.word.now = rw c.in_ok-word.ensures.ok_part at c.only_word.ensures in
    let reading : IsFlagReading c.args.text.now c.ok_or-2.result =
    rw c.ok_or-2.ensures.value (flag_read c.args.text.now c.in_ok-word.word.now c.flag_of.result word c.flag_of.ensures) in
    record {
      ok = exactly_flag c.args.text.now c.ok_or-2.result reading;
      bad_limit = exactly_no_flag c.args.text.now c.ok_or-2.result reading;
      err = only_bad_limit c.args.text.now c.ok_or-2.result reading;
    }
