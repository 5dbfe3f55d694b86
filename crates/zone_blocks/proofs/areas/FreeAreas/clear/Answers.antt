use Rattle.std.proofs.Common.{Option, subst, arith}
use Rattle.std.specs.Option.{MatchOption}
use Rattle.zone_blocks.specs.declared.block.Block.{Block}
use Rattle.zone_blocks.specs.Areas.{HasNoneFrom, IsSmallestFrom}
use Rattle.zone_blocks.proofs.OrderLists.{fewer, none_in}
use Rattle.zone_blocks.proofs.areas.FreeAreas.clear.Goals as goal

pub loop-block-smaller : goal.loop-block-smaller
loop-block-smaller c =
    let blocks = c.loop-block.self.blocks in
    let M : Option Block → Type 0 = λ r. MatchOption r (HasNoneFrom blocks 0) (IsSmallestFrom blocks 0) in
    fewer c.loop-block.self.blocks _ c.in-Some.block c.first_from.ensures.apart.ordered
    (subst M c.in-Some.is c.first_from.ensures.smallest).there c.remove.ensures.blocks

pub returns-clause-blocks : goal.returns-clause-blocks
returns-clause-blocks c =
    let blocks = c.loop-block.self.blocks in
    let M : Option Block → Type 0 = λ r. MatchOption r (HasNoneFrom blocks 0) (IsSmallestFrom blocks 0) in
    let none = subst M c.in_default.is c.first_from.ensures.smallest in
    none_in blocks (λ b q. let l = none b q in absurd (omega arith))
