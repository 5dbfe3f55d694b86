use Rattle.std.proofs.Common.{◌≡◌, ◌∷◌, ◌++◌, length}
use Rattle.script_lines.specs.Script.{texts_left}
use Rattle.line_server.specs.Logs.{answer_comments, comments_of}
use Rattle.line_server.proofs.comments.add_answer.Given as goal

-- the comments so far, and those of what is left, are those of the answer
abbrev pub invariant-loop-rest : goal.invariant-loop-rest
invariant-loop-rest l = l.log.items ++ comments_of (l.line ∷ texts_left l.rest) ≡ l.initial.log.items ++ answer_comments l.initial.answer

abbrev pub decreases-loop-rest : goal.decreases-loop-rest
decreases-loop-rest l = length (texts_left l.rest)
