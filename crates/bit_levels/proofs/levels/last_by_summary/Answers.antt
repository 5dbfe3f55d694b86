use Rattle.std.proofs.Common.{◌∙◌, ◌/◌, sym, refl}
use Rattle.bit_levels.proofs.Summaries.{none_below, last_below_is}
use Rattle.bit_levels.proofs.Words.{found_none}
use Rattle.bit_levels.proofs.levels.last_by_summary.Goals as goal

pub returns-in_err-word : goal.returns-in_err-word
returns-in_err-word c =
    let near = found_none _ _ c.last_in_word_below-found.result (sym c.is_some.ensures ∙ c.if-is_some.false) c.last_in_word_below-found.ensures in
    rw c.from_residual.ensures (none_below c.args.set.now c.args.summary.now c.requires.summary c.args.number (c.args.number / 64)
    refl near c.in_err-word.ensures)

pub returns : goal.returns
returns c =
    let near = found_none _ _ c.last_in_word_below-found.result (sym c.is_some.ensures ∙ c.if-is_some.false) c.last_in_word_below-found.ensures in
    last_below_is c.args.set.now c.args.summary.now c.requires.summary c.args.number (c.args.number / 64) c.in_ok-word.word refl near c.in_ok-word.ensures
    c.last_in_word.result c.last_in_word.ensures
