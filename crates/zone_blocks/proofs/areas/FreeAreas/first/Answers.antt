use Rattle.std.proofs.Common.{◌<◌, arith, subst}
use Rattle.std.specs.Option.{MatchOption}
use Rattle.zone_blocks.specs.Areas.{FreeBlocks, HasNoneOf, IsFirstOf}
use Rattle.zone_blocks.proofs.Calls.{in_zone_of, first_gives}
use Rattle.zone_blocks.proofs.areas.FreeAreas.first.Goals as goal

pub returns : goal.returns
returns c =
    let order = c.first_of.ensures.order in
    let within : c.args.order < 11 = omega arith in
    let P : FreeBlocks → Type 0 = λ v. MatchOption c.first_of.result (HasNoneOf v.blocks c.args.order) (IsFirstOf v.blocks c.args.order) in
    subst P c.self.view_is (first_gives c.self.inside.frames _ c.self.inside.links c.args.order c.first_of.result
    (in_zone_of _ _ _ c.self.invariant.0) c.self.invariant.0.rings within c.first_of.ensures.first)
