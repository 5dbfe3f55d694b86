-- Serves the contract of `size`: what clap reads of the option is what its row says.
use Rattle.std.proofs.Common.{◌≡◌, ◌∙◌, ap, sym, rules, None, option_and_then}
use Rattle.std.specs.Str.Parse.{ExplainsUnsignedError, HasUnsignedDigitsIfOk, ParsesUnsigned}
use Rattle.clap.specs.Words.{found_of, rows_of}
use Rattle.load_options.specs.Words.{number_kept, size_in}
use Rattle.load_options.proofs.Asking.{read_as_row}
use Rattle.load_options.proofs.task.size.Goals as goal

pub returns-in_err-size-clause-asked : goal.returns-in_err-size-clause-asked
returns-in_err-size-clause-asked c =
    let most = c.args.most in
    let found = found_of c.args.given.now in
    let name = c.args.name.now in
    let read : size_in name most (rows_of found) ≡ option_and_then (number_kept most) c.get_one.result =
    read_as_row _ (λ t r. ParsesUnsigned 32 10 t r × ExplainsUnsignedError 10 t r × HasUnsignedDigitsIfOk t r) (λ t r gives. gives.0)
    most c.ranges.most.fits found name c.get_one.result c.get_one.ensures.none c.get_one.ensures.value in
    let none : c.from_residual.result ≡ None = search rules in
    none ∙ sym (read ∙ ap (option_and_then (number_kept most)) c.in_err-size.was)

pub returns-clause-asked : goal.returns-clause-asked
returns-clause-asked c =
    let most = c.args.most in
    let found = found_of c.args.given.now in
    let name = c.args.name.now in
    let read : size_in name most (rows_of found) ≡ option_and_then (number_kept most) c.get_one.result =
    read_as_row _ (λ t r. ParsesUnsigned 32 10 t r × ExplainsUnsignedError 10 t r × HasUnsignedDigitsIfOk t r) (λ t r gives. gives.0)
    most c.ranges.most.fits found name c.get_one.result c.get_one.ensures.none c.get_one.ensures.value in
    c.in_range.ensures.kept ∙ sym (read ∙ ap (option_and_then (number_kept most)) c.in_ok-size.was)
