use Rattle.std.proofs.Common.{◌≡◌, ◌≢◌, true, false, sym, ◌∙◌}
use Rattle.std.proofs.lemmas.Bool.Decides.{Decides-eqb}
use Rattle.std.proofs.lemmas.Slice.Eq.{slice_eq-Decides}
use Rattle.std.proofs.lemmas.Result.{err_from_is_err_and}
use Rattle.std.specs.Prelude.{Ok, None, codes}
use Rattle.std.specs.Bool.{Decides}
use Rattle.control_files.specs.Reading.{IsReading, HasOnlyWord}
use Rattle.control_files.proofs.ReadingLemmas.{word_refused, max_reading, amount_reading, refused_reading, exactly_ok, exactly_number, exactly_limit}
use Rattle.control_files.proofs.ReadingLemmas.{only_refusals}
use Rattle.control_files.proofs.limit.read_limit.Goals as goal

pub returns-in_err-word : goal.returns-in_err-word
returns-in_err-word c =
    let reading : IsReading c.args.text.now c.from_residual.result = let p = err_from_is_err_and c.from_residual.result c.from_residual.ensures.1 in
    rw (p.1, p.2) (word_refused c.args.text.now c.only_word.result _ c.only_word.ensures c.in_err-word.ensures.value) in
    record {
      ok = exactly_ok c.args.text.now c.from_residual.result reading;
      bad_number =
          exactly_number c.args.text.now c.from_residual.result reading;
      bad_limit = exactly_limit c.args.text.now c.from_residual.result reading;
      err =
          only_refusals c.args.text.now c.from_residual.result reading;
    }

pub returns-then-eq : goal.returns-then-eq
returns-then-eq c =
    let word : HasOnlyWord c.args.text.now c.in_ok-word.word.now = rw c.in_ok-word.ensures.ok_part at c.only_word.ensures in
    let same_bytes : Decides c.eq.result (c.in_ok-word.word.now ≡ c.as_slice.result.now) = slice_eq-Decides Decides-eqb _ _ _ c.eq.ensures in
    let is_max : Decides c.eq.result (c.in_ok-word.word.now ≡ codes "max") = rw c.as_slice.ensures at same_bytes in
    let reading : IsReading c.args.text.now (Ok None) = max_reading c.args.text.now c.in_ok-word.word.now word (is_max.0 c.if-eq.true) in
    record {
      ok = exactly_ok c.args.text.now (Ok None) reading;
      bad_number = exactly_number c.args.text.now (Ok None) reading;
      bad_limit =
          exactly_limit c.args.text.now (Ok None) reading;
      err = only_refusals c.args.text.now (Ok None) reading;
    }

pub returns-in_err-bytes_of : goal.returns-in_err-bytes_of
returns-in_err-bytes_of c =
    let word : HasOnlyWord c.args.text.now c.in_ok-word.word.now = rw c.in_ok-word.ensures.ok_part at c.only_word.ensures in
    let same_bytes : Decides c.eq.result (c.in_ok-word.word.now ≡ c.as_slice.result.now) = slice_eq-Decides Decides-eqb _ _ _ c.eq.ensures in
    let is_max : Decides c.eq.result (c.in_ok-word.word.now ≡ codes "max") = rw c.as_slice.ensures at same_bytes in
    let other_word : c.in_ok-word.word.now ≢ codes "max" = λ same. let no : true ≡ false = sym (is_max.1 same) ∙ c.if-eq.false in cc in
    let reading : IsReading c.args.text.now c.from_residual-in_err-bytes_of.result = let p =
    err_from_is_err_and c.from_residual-in_err-bytes_of.result c.from_residual-in_err-bytes_of.ensures.1 in
    rw (p.1, p.2) (refused_reading c.args.text.now c.in_ok-word.word.now _ word other_word c.in_err-bytes_of.ensures) in
    record {
      ok = exactly_ok c.args.text.now c.from_residual-in_err-bytes_of.result reading;
      bad_number =
          exactly_number c.args.text.now c.from_residual-in_err-bytes_of.result reading;
      bad_limit =
          exactly_limit c.args.text.now c.from_residual-in_err-bytes_of.result reading;
      err =
          only_refusals c.args.text.now c.from_residual-in_err-bytes_of.result reading;
    }

pub returns : goal.returns
returns c =
    let word : HasOnlyWord c.args.text.now c.in_ok-word.word.now = rw c.in_ok-word.ensures.ok_part at c.only_word.ensures in
    let reading : IsReading c.args.text.now (Ok c.limit_of.result) =
    rw c.limit_of.ensures (amount_reading c.args.text.now c.in_ok-word.word.now c.in_ok-bytes_of.field-0 word c.in_ok-bytes_of.ensures) in
    record {
      ok = exactly_ok c.args.text.now (Ok c.limit_of.result) reading;
      bad_number =
          exactly_number c.args.text.now (Ok c.limit_of.result) reading;
      bad_limit = exactly_limit c.args.text.now (Ok c.limit_of.result) reading;
      err =
          only_refusals c.args.text.now (Ok c.limit_of.result) reading;
    }
