use Rattle.std.proofs.Common.{rules}
use Rattle.line_server.proofs.Commented.{commented}
use Rattle.line_server.proofs.comments.add_comment.Goals as goal

pub returns : goal.returns
returns c = commented c.args.log.now.items c.args.front.now c.args.back.now _ _ _ _ _ (search rules) c.in_ok-add_printed.ensures
    c.in_ok-add_printed-2.ensures c.truncate.ensures.items c.in_ok-push.ensures.items
