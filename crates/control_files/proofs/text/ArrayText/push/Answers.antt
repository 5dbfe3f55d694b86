use Rattle.std.proofs.Common.{ap, length, arith}
use Rattle.std.proofs.lemmas.List.{length-take-le}
use Rattle.control_files.proofs.TextLemmas.{IsPadded-written}
use Rattle.control_files.proofs.text.ArrayText.push.Goals as goal

pub invariant_of-self : goal.invariant_of-self
invariant_of-self c = IsPadded-written _ _ c.args.more.now c.self.inside.len c.self.invariant
    (omega (
      arith,
      ap length c.self.view_is,
      length-take-le c.self.inside.len c.self.inside.bytes
          (omega (arith, c.self.invariant.size, c.self.invariant.fits)),
    )) c.write_at.ensures
