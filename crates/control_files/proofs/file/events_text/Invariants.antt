use Rattle.group_tree.specs.Events.{all_keys}
use Rattle.control_files.proofs.EventLines.{AreWritten}
use Rattle.control_files.proofs.file.events_text.Given as goal

abbrev pub invariant-loop-key : goal.invariant-loop-key
invariant-loop-key l = AreWritten l.counts all_keys l.key-index l.text
