use Rattle.std.proofs.Common.{take}
use Rattle.std.specs.String.{string_bytes}
use Rattle.step_rules.specs.After.{Run}
use Rattle.script_replay.specs.{known_system, ServesOwn, worker}
use Rattle.script_replay.proofs.cpu_lines.serve_own.Given as goal

abbrev pub invariant-loop-line : goal.invariant-loop-line
invariant-loop-line g l =
    (told : Run) × ServesOwn (known_system g.N.BootName.table l.job.visitor.system.now.sizes)
    (worker l.cpu_number l.initial.cpu (take l.line-index l.job.lines.now) l.job.is_numbered) l.cpu told (string_bytes l.text)
