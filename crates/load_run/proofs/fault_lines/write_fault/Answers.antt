use Rattle.std.proofs.Common.{◌∙◌, List, ℕ, ap, subst, sym}
use Rattle.std.specs.Prelude.{OnOk}
use Rattle.std.specs.Io.KnownBytes.{Appends}
use Rattle.load_run.specs.Fault.{fault_text}
use Rattle.line_server.specs.Writing.{AppendsBeginning}
use Rattle.load_run.proofs.fault_lines.write_fault.Goals as goal

pub returns-in-IllegalEnd-clause-beginning : goal.returns-in-IllegalEnd-clause-beginning
returns-in-IllegalEnd-clause-beginning g c =
    subst (λ (l : List ℕ). AppendsBeginning (g.F.Write.contents c.args.faults.now) (g.F.Write.contents c.write_whole-in-IllegalEnd.new.writer) l)
    (c.as_bytes-in-IllegalEnd.ensures.value ∙ sym (ap fault_text c.in-IllegalEnd.is)) c.write_whole-in-IllegalEnd.ensures.beginning

pub returns-in-Input-clause-whole : goal.returns-in-Input-clause-whole
returns-in-Input-clause-whole g c =
    subst (λ (l : List ℕ). OnOk c.write_whole-in-Input.result (Appends (g.F.Write.contents c.args.faults.now) (g.F.Write.contents c.write_whole-in-Input.new.writer) l))
    (c.as_bytes-in-Input.ensures.value ∙ sym (ap fault_text c.in-Input.is)) c.write_whole-in-Input.ensures.whole

pub returns-in-Input-clause-beginning : goal.returns-in-Input-clause-beginning
returns-in-Input-clause-beginning g c =
    subst (λ (l : List ℕ). AppendsBeginning (g.F.Write.contents c.args.faults.now) (g.F.Write.contents c.write_whole-in-Input.new.writer) l)
    (c.as_bytes-in-Input.ensures.value ∙ sym (ap fault_text c.in-Input.is)) c.write_whole-in-Input.ensures.beginning

pub returns-in-Output-clause-whole : goal.returns-in-Output-clause-whole
returns-in-Output-clause-whole g c =
    subst (λ (l : List ℕ). OnOk c.write_whole-in-Output.result (Appends (g.F.Write.contents c.args.faults.now) (g.F.Write.contents c.write_whole-in-Output.new.writer) l))
    (c.as_bytes-in-Output.ensures.value ∙ sym (ap fault_text c.in-Output.is)) c.write_whole-in-Output.ensures.whole

pub returns-in-Output-clause-beginning : goal.returns-in-Output-clause-beginning
returns-in-Output-clause-beginning g c =
    subst (λ (l : List ℕ). AppendsBeginning (g.F.Write.contents c.args.faults.now) (g.F.Write.contents c.write_whole-in-Output.new.writer) l)
    (c.as_bytes-in-Output.ensures.value ∙ sym (ap fault_text c.in-Output.is)) c.write_whole-in-Output.ensures.beginning
