use Rattle.std.proofs.Common.{◌≡◌, ℕ, Bool, [], ◌++◌, ◌∙◌, IfOk, ap, codes, cond, decimal, subst, sym}
use Rattle.std.proofs.lemmas.Bool.{ne_eqb}
use Rattle.std.specs.String.{string_bytes}
use Rattle.machine_texts.specs.Explanation.{left_out_text}
use Rattle.machine_texts.proofs.Adding.{then_added}
use Rattle.machine_texts.proofs.explanation.write_left_out.Goals as goal

pub returns : goal.returns
unfolding left_out_text
returns c =
    let text = codes "# reclaimed " ++ decimal c.args.frames in
    let more = codes " more frames\n" in
    subst (λ (b : Bool). IfOk c.push_str.result (λ _. string_bytes c.push_str.new.self ≡ string_bytes c.args.text.now ++ cond b [] (text ++ more)))
    (sym (ne_eqb c.args.frames 0 c.if-frames-eq0.false))
    (then_added c.push_str.result (string_bytes c.args.text.now) (string_bytes c.push_count.new.text) (string_bytes c.push_str.new.self) text more
    (c.in_ok-push_count.ensures ∙ ap (λ (n : ℕ). string_bytes c.args.text.now ++ (codes "# reclaimed " ++ decimal n)) c.from.ensures)
    c.push_str.ensures.bytes)
