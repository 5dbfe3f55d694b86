use Rattle.std.proofs.Common.{arith, ap, ◌∙◌}
use Rattle.script_lines.specs.Names.{code_of}
use Rattle.script_lines.proofs.Words.{whole_word, word_alone}
use Rattle.script_lines.proofs.verb.Name.of.Goals as goal

pub returns : goal.returns
returns c =
    let whole = whole_word c.args.text.now c.at_front-end.result.1 c.at_front-end.ensures.end c.requires.word in
    let short = c.requires.short in
    c.at_front-end.ensures.name (omega arith) ∙ ap code_of (word_alone c.args.text.now c.at_front-end.result.1 whole)
