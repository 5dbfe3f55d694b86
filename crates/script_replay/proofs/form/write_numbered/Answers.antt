use Rattle.std.proofs.Common.{◌∙◌, ℕ, List, Bor, ap, map}
use Rattle.std.specs.String.{string_bytes}
use Rattle.script_replay.proofs.Numbering.{all_numbered}
use Rattle.script_replay.proofs.form.write_numbered.Goals as goal

pub returns : goal.returns
returns c =
    all_numbered c.args.number c.deref-line-items.result.now c.loop-line.line-index c.args.plain.now (string_bytes c.args.text.now)
    (string_bytes c.loop-line.text) c.loop-line-test.false
    (ap (map (λ (l : Bor (List ℕ)). l.now)) c.deref-line-items.ensures.value ∙ c.in_ok-lines.ensures) c.loop-line.invariant
