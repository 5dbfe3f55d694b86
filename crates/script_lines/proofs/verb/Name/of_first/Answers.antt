use Rattle.std.proofs.Common.{arith}
use Rattle.script_lines.proofs.Codes.{code_by_shift}
use Rattle.script_lines.proofs.verb.Name.of_first.Goals as goal

pub returns : goal.returns
returns c =
    code_by_shift c.args.text.now c.args.end c.from_be_bytes-bytes.result (omega arith) (λ k. (c.type_inv.text k).fits) (omega arith)
    (omega (arith, c.from_be_bytes-bytes.ensures))
