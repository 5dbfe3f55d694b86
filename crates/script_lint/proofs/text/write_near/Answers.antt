use Rattle.std.proofs.Common.{◌≡◌, ◌++◌, IfOk, List, ℕ, codes, subst}
use Rattle.std.specs.String.{string_bytes}
use Rattle.script_lint.proofs.Pieces.{follow, told}
use Rattle.script_lint.proofs.text.write_near.Goals as goal

pub returns : goal.returns
returns c =
    subst (λ (name : List ℕ). IfOk c.push_str-3.result (λ x. string_bytes c.push_str-3.new.self
    ≡ string_bytes c.args.text.now ++ (codes "; did you mean '" ++ (name ++ codes "'?")))) c.name.ensures
    (follow c.push_str-3.result _ (codes "; did you mean '") c.name.result.now (codes "'?") _ _ _
    c.in_ok-push_str.ensures.bytes c.in_ok-push_str-2.ensures.bytes (told c.push_str-3.result (string_bytes c.push_str-2.new.self) (codes "'?") _ c.push_str-3.ensures.bytes))
