use Rattle.std.proofs.Common.{ℕ, subst}
use Rattle.std.specs.Option.{MatchOption}
use Rattle.zone_blocks.specs.Areas.{HasNoneFrom, IsSmallestFrom}
use Rattle.zone_blocks.proofs.areas.FreeAreas.smallest_from.Goals as goal

pub returns : goal.returns
returns c =
    let blocks = c.args.self.now.blocks in
    let M : ℕ → Type 0 = λ k. MatchOption c.first_from.result (HasNoneFrom blocks k) (IsSmallestFrom blocks k) in
    subst M c.exponent.ensures.exponent c.first_from.ensures.smallest
