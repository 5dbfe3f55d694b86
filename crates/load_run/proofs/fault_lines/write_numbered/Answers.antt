-- Serves the contract of `write_numbered`: three writes, one after the other, of which any may fail.
use Rattle.std.proofs.Common.{◌∙◌, subst}
use Rattle.std.specs.Fmt.{decimal}
use Rattle.std.specs.Io.KnownBytes.{Appends}
use Rattle.line_server.specs.Writing.{AppendsBeginning}
use Rattle.load_run.proofs.Written.{begins_after, begins_more}
use Rattle.load_run.proofs.fault_lines.write_numbered.Goals as goal

pub returns-in_err-write_whole-clause-beginning : goal.returns-in_err-write_whole-clause-beginning
returns-in_err-write_whole-clause-beginning g c =
    let first : AppendsBeginning _ _ c.args.front.now = subst (AppendsBeginning _ _) c.as_bytes.ensures.value c.write_whole.ensures.beginning in
    begins_more _ _ c.args.front.now _ first

pub returns-in_err-write_whole-2-clause-beginning : goal.returns-in_err-write_whole-2-clause-beginning
returns-in_err-write_whole-2-clause-beginning g c =
    let first : Appends _ _ c.args.front.now = subst (Appends _ _) c.as_bytes.ensures.value c.in_ok-write_whole.ensures.whole in
    let second : AppendsBeginning _ _ (decimal c.args.number) =
    subst (AppendsBeginning _ _) (c.as_bytes-2.ensures.value ∙ c.format.ensures.text) c.write_whole-2.ensures.beginning in
    begins_after _ _ _ c.args.front.now _ first (begins_more _ _ (decimal c.args.number) _ second)

pub returns-clause-beginning : goal.returns-clause-beginning
returns-clause-beginning g c =
    let first : Appends _ _ c.args.front.now = subst (Appends _ _) c.as_bytes.ensures.value c.in_ok-write_whole.ensures.whole in
    let second : Appends _ _ (decimal c.args.number) =
    subst (Appends _ _) (c.as_bytes-2.ensures.value ∙ c.format.ensures.text) c.in_ok-write_whole-2.ensures.whole in
    let third : AppendsBeginning _ _ c.args.back.now = subst (AppendsBeginning _ _) c.as_bytes-3.ensures.value c.write_whole-3.ensures.beginning in
    begins_after _ _ _ c.args.front.now _ first (begins_after _ _ _ (decimal c.args.number) _ second third)
