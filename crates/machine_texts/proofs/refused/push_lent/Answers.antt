use Rattle.std.proofs.Common.{◌≡◌, ℕ, List, Option, ◌++◌, ◌∙◌, IfOk, ap, codes, decimal, subst, sym}
use Rattle.std.specs.String.{string_bytes}
use Rattle.machine_texts.specs.Refused.{lent_text}
use Rattle.machine_texts.proofs.Adding.{both_added, then_added}
use Rattle.machine_texts.proofs.refused.push_lent.Goals as goal

pub returns : goal.returns
unfolding lent_text
returns c =
    let before : List ℕ = string_bytes c.args.text.now in
    let listed : List ℕ = string_bytes c.push_count.new.text in
    let fresh : List ℕ = string_bytes c.push_count-2.new.text in
    let after : List ℕ = string_bytes c.push_str.new.self in
    let cpu : List ℕ = decimal c.in-Some.cpu in
    let one : List ℕ = codes "; it is on CPU " in
    let two : List ℕ = codes "'s list, or fresh there until CPU " in
    let first : listed ≡ before ++ (one ++ cpu) = c.in_ok-push_count.ensures ∙ ap (λ (n : ℕ). before ++ (one ++ decimal n)) c.from.ensures in
    let second : fresh ≡ listed ++ (two ++ cpu) = c.in_ok-push_count-2.ensures ∙ ap (λ (n : ℕ). listed ++ (two ++ decimal n)) c.from-2.ensures in
    subst (λ (lent : Option ℕ). IfOk c.push_str.result (λ _. after ≡ before ++ lent_text lent)) (sym c.in-Some.is)
    (then_added c.push_str.result before fresh after ((one ++ cpu) ++ two ++ cpu) (codes " settles")
    (both_added before listed fresh (one ++ cpu) two cpu first second) c.push_str.ensures.bytes)
