use Rattle.std.proofs.Common.{◌<◌, length, take, arith}
use Rattle.std.proofs.lemmas.List.{length-take-le}
use Rattle.script_lines.proofs.Cuts.{cut_at, graphic_no_space, no_cut, path_ends}
use Rattle.script_lines.proofs.Readings.{on_none}
use Rattle.script_lines.proofs.script.first_path.Goals as goal

pub returns-in_err-end : goal.returns-in_err-end
returns-in_err-end c = on_none _ _ _ c.from_residual.ensures
    (λ path rest is e. no_cut c.args.text.now path rest (graphic_no_space c.args.text.now c.in_err-end.ensures) e)

pub returns-then-end-eq0 : goal.returns-then-end-eq0
returns-then-end-eq0 c path rest is e =
    let ends = path_ends c.args.text.now c.in_ok-end.end path rest c.in_ok-end.ensures is e in
    let some = ends.0 in
    omega arith

pub returns-then-text-end-ne32 : goal.returns-then-text-end-ne32
returns-then-text-end-ne32 c path rest is e =
    let ends = path_ends c.args.text.now c.in_ok-end.end path rest c.in_ok-end.ensures is e in
    c.if-text-end-ne32.true ends.1

pub returns : goal.returns
returns c =
    let text = c.args.text.now in
    let end = c.in_ok-end.end in
    let ends = c.in_ok-end.ensures in
    let inside = ends.inside in
    let taken = length-take-le end text (omega arith) in
    let some : 0 < length (take end text) = omega arith in (
      record { some = some; graphic = ends.before },
      cut_at text end inside (graphic_no_space (take end text) ends.before) c.if-text-end-ne32.false,
    )
