use Rattle.std.proofs.Common.{eqb, arith, w8}
use lib.Lanes.{chunk}
use Rattle.std.proofs.lemmas.Simd.{bitmask_splat, length-chunk}
use Rattle.script_lines.proofs.Places.{first_marked}
use Rattle.script_lines.proofs.place.near_place.Goals as goal

pub returns : goal.returns
returns c =
    let v = chunk 0 32 c.args.text.now in
    let long = length-chunk 0 32 c.args.text.now (omega arith) in
    (first_marked 32 c.args.wanted c.args.text.now _ (omega arith) (omega arith) (bitmask_splat w8 eqb v 32 c.args.wanted long (omega arith)) c.if-marks-eq0.false).1
