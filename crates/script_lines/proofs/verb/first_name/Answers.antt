use Rattle.std.proofs.Common.{rules}
use Rattle.script_lines.proofs.verb.first_name.Goals as goal

pub near_end-end-requires-clause-room : goal.near_end-end-requires-clause-room
near_end-end-requires-clause-room c = search rules

pub of_first-requires-clause-short : goal.of_first-requires-clause-short
of_first-requires-clause-short c = search rules
