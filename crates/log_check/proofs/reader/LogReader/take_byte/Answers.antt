-- Serves the contract of `take_byte`: the line goes on, or is too long.
use Rattle.std.proofs.Common.{◌≤◌, ◌+◌, length, refl, rules}
use Rattle.log_check.proofs.Bytes.{line_long}
use Rattle.log_check.proofs.reader.LogReader.take_byte.Goals as goal

pub returns-then-len-ge-MAX_LINE-clause-read : goal.returns-then-len-ge-MAX_LINE-clause-read
returns-then-len-ge-MAX_LINE-clause-read c = λ before h rest.
    let long : 1024 ≤ length c.args.self.now.line.items = search rules in
    line_long before rest c.args.self.now c.args.byte (c.args.self.now.lines + 1) h c.if-byte-eq10.false long refl
