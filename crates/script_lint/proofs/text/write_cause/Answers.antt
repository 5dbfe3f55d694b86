use Rattle.std.proofs.Common.{codes}
use Rattle.std.specs.String.{string_bytes}
use Rattle.script_lint.proofs.Pieces.{told}
use Rattle.script_lint.proofs.text.write_cause.Goals as goal

pub returns-in-UnknownCommand : goal.returns-in-UnknownCommand
returns-in-UnknownCommand c = rw c.in-UnknownCommand.is (c.write_unknown.ensures c.args.sizes.now)

pub returns-in-CarriageReturn : goal.returns-in-CarriageReturn
returns-in-CarriageReturn c = rw c.in-CarriageReturn.is (c.write_return.ensures c.args.sizes.now)

pub returns-in-NumberOutOfRange : goal.returns-in-NumberOutOfRange
returns-in-NumberOutOfRange c = rw c.in-NumberOutOfRange.is (c.write_number.ensures c.args.sizes.now)

pub returns-in-UnprintableByte : goal.returns-in-UnprintableByte
returns-in-UnprintableByte c = rw c.in-UnprintableByte.is (c.write_byte.ensures c.args.sizes.now)

pub returns-in-TooFewWords : goal.returns-in-TooFewWords
returns-in-TooFewWords c = rw c.in-TooFewWords.is c.write_misfit.ensures

pub returns-in-TooManyWords : goal.returns-in-TooManyWords
returns-in-TooManyWords c = rw c.in-TooManyWords.is c.write_misfit-in-TooManyWords.ensures

pub returns-in-LateComment : goal.returns-in-LateComment
returns-in-LateComment c = rw c.in-LateComment.is (told c.push_str-in-LateComment.result (string_bytes c.args.text.now) (codes "a comment is a line that begins with #") _ c.push_str-in-LateComment.ensures.bytes)

pub returns-in-SpaceAtEnd : goal.returns-in-SpaceAtEnd
returns-in-SpaceAtEnd c = rw c.in-SpaceAtEnd.is (told c.push_str-in-SpaceAtEnd.result (string_bytes c.args.text.now) (codes "space at an end of the line") _ c.push_str-in-SpaceAtEnd.ensures.bytes)

pub returns-in-LineTooLong : goal.returns-in-LineTooLong
returns-in-LineTooLong c = rw c.in-LineTooLong.is (told c.push_str-in-LineTooLong.result (string_bytes c.args.text.now) (codes "the line has more than 1024 bytes") _ c.push_str-in-LineTooLong.ensures.bytes)

pub returns-in-InputTooLong : goal.returns-in-InputTooLong
returns-in-InputTooLong c = rw c.in-InputTooLong.is (told c.push_str-in-InputTooLong.result (string_bytes c.args.text.now) (codes "the script has more than 1048576 bytes") _ c.push_str-in-InputTooLong.ensures.bytes)

pub returns-in-SecondGo : goal.returns-in-SecondGo
returns-in-SecondGo c = rw c.in-SecondGo.is (told c.push_str-in-SecondGo.result (string_bytes c.args.text.now) (codes "a second go") _ c.push_str-in-SecondGo.ensures.bytes)

pub returns-in-ByteOrderMark : goal.returns-in-ByteOrderMark
returns-in-ByteOrderMark c = rw c.in-ByteOrderMark.is (told c.push_str.result (string_bytes c.args.text.now) (codes "a UTF-8 byte order mark: a script is plain ASCII") _ c.push_str.ensures.bytes)

pub returns-in-Gzip : goal.returns-in-Gzip
returns-in-Gzip c = rw c.in-Gzip.is (told c.push_str-in-Gzip.result (string_bytes c.args.text.now) (codes "this looks like gzip: a script is plain ASCII") _ c.push_str-in-Gzip.ensures.bytes)

pub returns-in-WideText : goal.returns-in-WideText
returns-in-WideText c = rw c.in-WideText.is (told c.push_str-in-WideText.result (string_bytes c.args.text.now) (codes "this looks like UTF-16: a script is plain ASCII") _ c.push_str-in-WideText.ensures.bytes)
