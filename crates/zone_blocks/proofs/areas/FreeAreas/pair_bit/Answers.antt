use Rattle.std.proofs.Common.{◌≡◌, ◌↔◌, true, subst}
use Rattle.std.specs.Option.{MatchOption}
use Rattle.zone_blocks.specs.{HasPairBit, FreeBlocks, IsOneOfPair}
use Rattle.zone_blocks.proofs.Pairing.{pair_read}
use Rattle.zone_blocks.proofs.areas.FreeAreas.pair_bit.Goals as goal

pub returns : goal.returns
returns c =
    let P : FreeBlocks → Type 0 = λ v. MatchOption c.read_pair.result (¬ HasPairBit v.frames c.args.block)
    (λ bit. HasPairBit v.frames c.args.block × ((bit ≡ true) ↔ IsOneOfPair v.blocks c.args.block)) in
    subst P c.self.view_is (pair_read _ _ _ c.self.invariant.1 c.args.block c.read_pair.result c.read_pair.ensures)
