-- Serves the contract of `take_bytes`: it is known what the log is before the bytes end.
use Rattle.std.proofs.Common.{◌∙◌, ◌++◌, sym, take}
use Rattle.log_check.proofs.Bytes.{stops}
use Rattle.log_check.proofs.reader.LogReader.take_bytes.Goals as goal

pub returns-then-is_some-clause-read : goal.returns-then-is_some-clause-read
returns-then-is_some-clause-read c = λ before h.
    stops before c.args.bytes.now c.loop-byte.byte-index _ c.take_byte.new.self c.in_ok-end.end c.loop-byte-test.true
    (sym c.is_some.ensures ∙ c.if-is_some.true)
    (c.in_ok-end.ensures.read (before ++ take c.loop-byte.byte-index c.args.bytes.now) (c.loop-byte.invariant.1 before h))
