use Rattle.std.proofs.Common.{◌++◌, codes}
use Rattle.std.specs.String.{string_bytes}
use Rattle.machine_texts.specs.Lines.{group_text, range_text}
use Rattle.machine_texts.proofs.Adding.{both_added, then_added}
use Rattle.machine_texts.proofs.lines.write_reclaimed.Goals as goal

pub returns : goal.returns
returns c =
    let named = codes "# reclaimed " ++ group_text c.args.tree.now c.args.gone.now c.args.group in
    then_added c.push_str.result (string_bytes c.args.text.now) (string_bytes c.push_span.new.text) (string_bytes c.push_str.new.self)
    (named ++ codes " " ++ range_text c.args.first c.args.last) (codes "\n")
    (both_added (string_bytes c.args.text.now) (string_bytes c.push_group.new.text) (string_bytes c.push_span.new.text) named (codes " ")
    (range_text c.args.first c.args.last) c.in_ok-push_group.ensures c.in_ok-push_span.ensures)
    c.push_str.ensures.bytes
