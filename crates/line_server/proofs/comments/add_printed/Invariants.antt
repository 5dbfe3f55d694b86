use Rattle.std.proofs.Common.{◌≡◌, ◌++◌, map, take}
use Rattle.line_server.specs.Logs.{printed}
use Rattle.line_server.proofs.comments.add_printed.Given as goal

abbrev pub invariant-loop-byte : goal.invariant-loop-byte
invariant-loop-byte l = l.log.items ≡ l.initial.log.items ++ map printed (take l.byte-index l.bytes)
