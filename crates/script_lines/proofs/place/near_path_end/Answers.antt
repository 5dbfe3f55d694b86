use Rattle.std.proofs.Common.{ltb, ◌+◌, ◌%◌, ◌∙◌, ap, arith, length, map, w8}
use lib.Lanes.{chunk, mask_l}
use Rattle.std.proofs.lemmas.List.{length-map}
use Rattle.std.proofs.lemmas.Simd.{bitmask_splat, length-chunk, zip2_splat}
use Rattle.script_lines.proofs.Places.{path_marked}
use Rattle.script_lines.proofs.place.near_path_end.Goals as goal

pub returns : goal.returns
returns c =
    let v = chunk 0 16 c.args.text.now in
    let long = length-chunk 0 16 c.args.text.now (omega arith) in
    let more = zip2_splat (λ a b. (a + b) % 256) v 16 129 long in
    let size = ap length more ∙ length-map v (λ x. (x + 129) % 256) ∙ long in
    path_marked c.args.text.now _ (omega arith) c.type_inv.text
    (bitmask_splat w8 ltb _ 16 162 size (omega arith) ∙ ap (λ l. mask_l (map (λ x. ltb x 162) l)) more) c.if-marks-eq0.false
