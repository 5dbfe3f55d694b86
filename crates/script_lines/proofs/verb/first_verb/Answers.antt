use Rattle.std.proofs.Common.{rules, ◌≡◌, ◌+◌, ◌-◌, None, Some, length, take, drop, arith, subst, sym, ap, ◌∙◌}
use Rattle.script_lines.specs.{code_of, IsCut, verb_coded}
use Rattle.script_lines.proofs.Readings.{on_none}
use Rattle.script_lines.proofs.Verbs.{named, verb_coded-name_of}
use Rattle.script_lines.proofs.Words.{word_alone, word_bytes, word_cut, word_is}
use Rattle.script_lines.proofs.verb.first_verb.Goals as goal

pub returns-in_err-verb : goal.returns-in_err-verb
returns-in_err-verb c = on_none _ _ _ c.from_residual-in_err-verb.ensures (λ verb begins.
    let found = c.in_ok-name.ensures in
    let none : verb_coded c.in_ok-name.name.code ≡ None = search rules in
    let word = word_is c.args.text.now c.in_ok-name.end verb found.0 begins in
    let is : verb_coded c.in_ok-name.name.code ≡ Some verb = ap verb_coded (found.1 ∙ ap code_of word) ∙ verb_coded-name_of verb in
    cc)

pub returns-then-end-text : goal.returns-then-end-text
returns-then-end-text c =
    let text = c.args.text.now in
    let end = c.in_ok-name.end in
    let is_end = c.in_ok-name.ensures.0 in
    let found : verb_coded c.in_ok-name.name.code ≡ Some c.in_ok-verb.verb = search rules in
    let word = named (take end text) c.in_ok-verb.verb (word_bytes text end is_end) (ap verb_coded (sym c.in_ok-name.ensures.1) ∙ found) in
    sym (word_alone text end (omega arith)) ∙ word

pub returns : goal.returns
returns c =
    let text = c.args.text.now in
    let end = c.in_ok-name.end in
    let is_end = c.in_ok-name.ensures.0 in
    let found : verb_coded c.in_ok-name.name.code ≡ Some c.in_ok-verb.verb = search rules in
    let word = named (take end text) c.in_ok-verb.verb (word_bytes text end is_end) (ap verb_coded (sym c.in_ok-name.ensures.1) ∙ found) in
    let inside = is_end.inside in
    subst (λ w. IsCut text w (take (length text - (end + 1)) (drop (end + 1) text))) word (word_cut text end is_end (omega arith))
