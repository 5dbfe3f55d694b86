use Rattle.std.proofs.Common.{rules}
use Rattle.std.specs.String.{string_bytes}
use Rattle.script_replay.proofs.threads.run_one.Goals as goal

pub returns : goal.returns
returns g c = (c.in_ok-own.ensures.0, string_bytes c.in_ok-own.own, c.in_ok-own.ensures.1, search rules)
