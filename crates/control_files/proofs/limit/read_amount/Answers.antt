use Rattle.std.specs.Prelude.{Ok}
use Rattle.std.proofs.lemmas.Result.{err_from_is_err_and}
use Rattle.control_files.specs.Reading.{HasOnlyWord, IsPagesReading}
use Rattle.control_files.proofs.PagesLemmas.{exactly_no_amount, exactly_pages, exactly_too_great, no_pages, only_amount_refusals, pages_reading, refused_pages}
use Rattle.control_files.proofs.limit.read_amount.Goals as goal

pub returns-in_err-word : goal.returns-in_err-word
returns-in_err-word c =
    let reading : IsPagesReading c.args.text.now c.from_residual.result = let p = err_from_is_err_and c.from_residual.result c.from_residual.ensures.1 in
    rw (p.1, p.2) (no_pages c.args.text.now c.only_word.result _ c.only_word.ensures c.in_err-word.ensures.value) in
    record {
      ok = exactly_pages c.args.text.now c.from_residual.result reading;
      bad_number = exactly_too_great c.args.text.now c.from_residual.result reading;
      bad_limit = exactly_no_amount c.args.text.now c.from_residual.result reading;
      err = only_amount_refusals c.args.text.now c.from_residual.result reading;
    }

pub returns-in_err-bytes_of : goal.returns-in_err-bytes_of
returns-in_err-bytes_of c =
    let word : HasOnlyWord c.args.text.now c.in_ok-word.word.now = rw c.in_ok-word.ensures.ok_part at c.only_word.ensures in
    let reading : IsPagesReading c.args.text.now c.from_residual-in_err-bytes_of.result = let p =
    err_from_is_err_and c.from_residual-in_err-bytes_of.result c.from_residual-in_err-bytes_of.ensures.1 in
    rw (p.1, p.2) (refused_pages c.args.text.now c.in_ok-word.word.now _ word c.in_err-bytes_of.ensures) in
    record {
      ok = exactly_pages c.args.text.now c.from_residual-in_err-bytes_of.result reading;
      bad_number = exactly_too_great c.args.text.now c.from_residual-in_err-bytes_of.result reading;
      bad_limit = exactly_no_amount c.args.text.now c.from_residual-in_err-bytes_of.result reading;
      err = only_amount_refusals c.args.text.now c.from_residual-in_err-bytes_of.result reading;
    }

pub returns : goal.returns
returns c =
    let word : HasOnlyWord c.args.text.now c.in_ok-word.word.now = rw c.in_ok-word.ensures.ok_part at c.only_word.ensures in
    let reading : IsPagesReading c.args.text.now (Ok c.div_ceil.result) =
    rw c.div_ceil.ensures (pages_reading c.args.text.now c.in_ok-word.word.now c.in_ok-bytes_of.field-0 word c.in_ok-bytes_of.ensures) in
    record {
      ok = exactly_pages c.args.text.now (Ok c.div_ceil.result) reading;
      bad_number = exactly_too_great c.args.text.now (Ok c.div_ceil.result) reading;
      bad_limit = exactly_no_amount c.args.text.now (Ok c.div_ceil.result) reading;
      err = only_amount_refusals c.args.text.now (Ok c.div_ceil.result) reading;
    }
