use Rattle.std.proofs.Common.{◌∙◌, ◌/◌, List, Bool, sym, subst, refl}
use Rattle.std.specs.Option.{MatchOption}
use Rattle.bit_levels.specs.Sets.{HasNoneIn, IsLastIn}
use Rattle.bit_levels.proofs.Summaries.{none_below, last_below_is}
use Rattle.bit_levels.proofs.Words.{found_none}
use Rattle.bit_levels.proofs.levels.BitLevels.last_below.Goals as goal

pub returns-in_err-word : goal.returns-in_err-word
returns-in_err-word c =
    let P : List Bool → Type 0 = λ xs. HasNoneIn xs 0 c.args.number in
    let near = found_none _ _ c.last_in_word_below-found.result (sym c.is_some.ensures ∙ c.if-is_some.false) c.last_in_word_below-found.ensures in
    rw c.from_residual.ensures (subst P c.self.view_is
    (none_below c.self.inside.bits c.self.inside.summary c.self.invariant.0 c.args.number (c.args.number / 64) refl near c.in_err-word.ensures))

pub returns : goal.returns
returns c =
    let P : List Bool → Type 0 = λ xs. MatchOption c.last_in_word.result (HasNoneIn xs 0 c.args.number) (IsLastIn xs 0 c.args.number) in
    let near = found_none _ _ c.last_in_word_below-found.result (sym c.is_some.ensures ∙ c.if-is_some.false) c.last_in_word_below-found.ensures in
    subst P c.self.view_is (last_below_is c.self.inside.bits c.self.inside.summary c.self.invariant.0 c.args.number
    (c.args.number / 64) c.in_ok-word.word refl near
    c.in_ok-word.ensures c.last_in_word.result c.last_in_word.ensures)
