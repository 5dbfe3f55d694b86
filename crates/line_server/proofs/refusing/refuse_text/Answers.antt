-- Serves the contract of `refuse_text`: a text that is good by itself has a line.
use Rattle.std.proofs.Common.{◌≡◌, rules, subst}
use Rattle.script_lint.specs.{IsTextLinted, cause_text}
use Rattle.line_server.proofs.Answered.{refused, says_line}
use Rattle.line_server.proofs.refusing.refuse_text.Goals as goal

pub unreachable-requires : goal.unreachable-requires
unreachable-requires c =
    let good = subst (IsTextLinted c.args.sizes.now c.args.text.now) c.in-None.is c.in_ok-finding.ensures in
    let line = says_line c.args.sizes.now c.requires.bad.0 c.args.text.now good.good c.requires.asks in
    c.requires.bad.1 line.0 line.1

pub returns : goal.returns
returns c =
    let found = subst (IsTextLinted c.args.sizes.now c.args.text.now) c.in-Some.is c.in_ok-finding.ensures in
    let said : c.as_bytes.result.now ≡ cause_text c.args.sizes.now c.in-Some.finding c.in-Some.finding.spot.cause = search rules in
    refused c.bad_line.result c.args.form c.args.sizes.now c.args.text.now c.as_bytes.result.now c.in-Some.finding found said c.bad_line.ensures
