use Rattle.std.proofs.Common.{◌≡◌, rules}
use Rattle.log_lines.specs.Reading.{words_left}
use Rattle.log_lines.proofs.Texts.{end_is}
use Rattle.log_lines.proofs.word.Words.is_empty.Goals as goal

pub returns : goal.returns
returns c =
    let view : c.args.self.now ≡ words_left c.self.inside.rest = search rules in
    rw view (end_is c.self.inside.rest c.is_none.result c.is_none.ensures)
