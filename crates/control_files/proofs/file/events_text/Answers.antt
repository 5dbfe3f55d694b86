use Rattle.std.proofs.Common.{◌≡◌, ◌<◌, length, arith}
use Rattle.group_tree.specs.Events.{all_keys}
use Rattle.control_files.proofs.EventLines.{all_lines, line_fits, line_written, no_line}
use Rattle.control_files.proofs.file.events_text.Goals as goal

pub loop-key-init : goal.loop-key-init
loop-key-init c = rw c.new-text.ensures (no_line c.args.counts)

pub push_count-requires : goal.push_count-requires
push_count-requires c =
    let inside : c.loop-key.key-index < length all_keys = omega arith in
    rw (c.as_bytes.ensures.value, c.name.ensures) (line_fits c.args.counts all_keys c.loop-key.key-index _ c.loop-key.text inside c.loop-key.invariant)

pub loop-key-preserved : goal.loop-key-preserved
loop-key-preserved c =
    let inside : c.loop-key.key-index < length all_keys = omega arith in
    line_written c.args.counts all_keys c.loop-key.key-index _ c.loop-key.text c.push_count.new.text inside c.loop-key.invariant
    (rw (c.as_bytes.ensures.value, c.name.ensures, c.count.ensures) at c.push_count.ensures.text)
    (rw (c.as_bytes.ensures.value, c.name.ensures) at c.push_count.ensures.short)

pub returns : goal.returns
returns c =
    let end : c.loop-key.key-index ≡ length all_keys = omega arith in
    all_lines c.args.counts c.loop-key.key-index c.loop-key.text end c.loop-key.invariant
