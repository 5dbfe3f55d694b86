use Rattle.std.proofs.Common.{◌≡◌, ◌∷◌, ◌++◌, subst}
use Rattle.script_lines.specs.Script.{texts_left}
use Rattle.line_server.specs.Logs.{answer_comments, comments_of}
use Rattle.line_server.proofs.Commented.{answer_more}
use Rattle.line_server.proofs.comments.add_answer.Goals as goal

pub loop-rest-preserved : goal.loop-rest-preserved
loop-rest-preserved c =
    let next = c.first_line-in-Some.result in
    answer_more c.loop-rest.log.items c.loop-rest.line.now c.in-Some.left.now _ _ (next.0.now ∷ texts_left next.1)
    (subst (λ o. c.loop-rest.log.items ++ comments_of (c.loop-rest.line.now ∷ texts_left o) ≡ c.args.log.now.items ++ answer_comments c.args.answer.now)
    c.in-Some.is c.loop-rest.invariant) c.first_line-in-Some.ensures c.in_ok-add_answer_line.ensures
