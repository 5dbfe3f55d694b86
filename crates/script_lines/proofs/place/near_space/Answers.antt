use Rattle.std.proofs.Common.{eqb, arith, w8}
use lib.Lanes.{chunk}
use Rattle.std.proofs.lemmas.Simd.{bitmask_splat, length-chunk}
use Rattle.script_lines.proofs.Places.{near_marked}
use Rattle.script_lines.proofs.place.near_space.Goals as goal

pub returns-clause-low : goal.returns-clause-low
returns-clause-low c =
    let text = c.args.text.now in
    let long = length-chunk 0 8 text (omega arith) in
    (near_marked 32 text _ (omega arith) (bitmask_splat w8 eqb (chunk 0 8 text) 8 32 long (omega arith))).0

pub returns-clause-before : goal.returns-clause-before
returns-clause-before c =
    let text = c.args.text.now in
    let long = length-chunk 0 8 text (omega arith) in
    (near_marked 32 text _ (omega arith) (bitmask_splat w8 eqb (chunk 0 8 text) 8 32 long (omega arith))).1

pub returns-clause-stop : goal.returns-clause-stop
returns-clause-stop c =
    let text = c.args.text.now in
    let long = length-chunk 0 8 text (omega arith) in
    (near_marked 32 text _ (omega arith) (bitmask_splat w8 eqb (chunk 0 8 text) 8 32 long (omega arith))).2
