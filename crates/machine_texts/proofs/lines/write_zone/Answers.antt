use Rattle.std.proofs.Common.{ℕ, ◌++◌, ◌∙◌, ap, codes, decimal}
use Rattle.std.specs.String.{string_bytes}
use Rattle.machine_texts.proofs.Adding.{then_added}
use Rattle.machine_texts.proofs.lines.write_zone.Goals as goal

pub returns : goal.returns
returns c =
    then_added c.push_str.result (string_bytes c.args.text.now) (string_bytes c.push_count.new.text) (string_bytes c.push_str.new.self)
    (codes "# zone order " ++ decimal c.args.order) (codes "\n")
    (c.in_ok-push_count.ensures ∙ ap (λ (n : ℕ). string_bytes c.args.text.now ++ (codes "# zone order " ++ decimal n)) c.from.ensures)
    c.push_str.ensures.bytes
