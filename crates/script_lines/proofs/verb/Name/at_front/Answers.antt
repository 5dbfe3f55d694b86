use Rattle.std.proofs.Common.{rules, ◌≡◌, ◌≢◌, ◌<◌, ◌+◌, ◌*◌, ◌^◌, suc, length, take, get_or, arith, sym, ap, ◌∙◌}
use Rattle.std.proofs.lemmas.List.{length-take-le}
use Rattle.std.proofs.lemmas.List.Elements.{All-more}
use Rattle.script_lines.specs.Names.{code_of}
use Rattle.script_lines.proofs.Codes.{AreBytes, code_more, few_fit, one_more_fits}
use Rattle.script_lines.proofs.verb.Name.at_front.Goals as goal

pub loop-end-preserved : goal.loop-end-preserved
loop-end-preserved c =
    let text = c.args.text.now in
    let end = c.loop-end.end in
    let inside : end < length text = c.loop-end-test.true in
    let byte : c.from.result ≡ get_or text end 0 = search rules in
    let other : get_or text end 0 ≢ 32 = c.if-text-end-ne32.true in
    let fits : get_or text end 0 < 256 = search rules in
    let bytes : AreBytes (take end text) = λ k d h. (c.loop-end.invariant.1 k d h).1 in (
      omega arith,
      All-more (λ b. (b ≢ 32) × (b < 256)) text end 0 inside c.loop-end.invariant.1 (other, fits),
      λ few.
          let is : code_of (take end text) ≡ c.loop-end.code = c.loop-end.invariant.2 (omega arith) in
          let taken = length-take-le end text (omega arith) in
          let small : c.loop-end.code < 2 ^ 56 = rw (← is) (few_fit (take end text) (omega arith) bytes) in
          let next : suc end ≡ end + 1 = omega arith in
          let more = code_more 124 text end inside ∙ ap (λ n. n * 256 + get_or text end 0) is in
          rw (← next) (rw byte (more ∙ sym (one_more_fits c.loop-end.code (get_or text end 0) small fits))),
    )
